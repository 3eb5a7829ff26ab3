use Rattle.std.proofs.Common.{◌≡◌, ◌<◌, ◌⊎◌, length}
use Rattle.flow_bits.specs.Sets.{Relates, TellsPairs}
use Rattle.call_flow.specs.Calls.{up}
use Rattle.call_flow.proofs.dropping.copy_pairs_of.Given as goal

abbrev pub invariant-loop-w : goal.invariant-loop-w
invariant-loop-w l = record {
  size : length l.into ≡ length l.initial.into;
  set : TellsPairs l.into (λ x y. Relates l.initial.into x y ⊎ ((l.v ≡ x) × ((y < l.w) × Relates l.«from» (up l.void l.big x) (up l.void l.big y))));
}
