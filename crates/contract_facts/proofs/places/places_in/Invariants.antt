use Rattle.std.proofs.Common.{◌≡◌, ◌<◌, length}
use Rattle.flow_bits.specs.Sets.{Has, Tells}
use Rattle.callee_view.specs.Shown.{leaf_at}
use Rattle.contract_facts.proofs.places.places_in.Given as goal

abbrev pub invariant-loop-i : goal.invariant-loop-i
invariant-loop-i l = record {
  size : length l.row ≡ length l.leaves;
  set : Tells l.row (λ x. (x < l.i) × Has l.set (leaf_at l.leaves x));
}
