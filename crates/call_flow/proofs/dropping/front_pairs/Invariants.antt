use Rattle.std.proofs.Common.{◌≡◌, ◌+◌, ◌<◌, length}
use Rattle.flow_bits.specs.Sets.{Relates, TellsPairs}
use Rattle.call_flow.specs.Calls.{up}
use Rattle.call_flow.proofs.dropping.front_pairs.Given as goal

abbrev pub invariant-loop-v : goal.invariant-loop-v
invariant-loop-v l = record {
  size : length l.square ≡ l.void + 1;
  set : TellsPairs l.square (λ x y. (x < l.v) × ((y < l.below) × Relates l.«from» (up l.void l.big x) (up l.void l.big y)));
}
