use Rattle.std.proofs.Common.{◌≡◌, ◌+◌, ◌<◌, length}
use Rattle.flow_bits.specs.Sets.{Has, Tells}
use Rattle.call_flow.proofs.dropping.front_row.Given as goal

abbrev pub invariant-loop-v : goal.invariant-loop-v
invariant-loop-v l = record {
  size : length l.row ≡ l.void + 1;
  set : Tells l.row (λ x. (x < l.v) × Has l.«from» x);
}
