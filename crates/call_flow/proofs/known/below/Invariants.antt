use Rattle.std.proofs.Common.{◌≡◌, ◌<◌, length}
use Rattle.flow_bits.specs.Sets.{Tells}
use Rattle.call_flow.proofs.known.below.Given as goal

abbrev pub invariant-loop-v : goal.invariant-loop-v
invariant-loop-v l = record {
  size : length l.row ≡ l.size;
  set : Tells l.row (λ x. x < l.v);
}
