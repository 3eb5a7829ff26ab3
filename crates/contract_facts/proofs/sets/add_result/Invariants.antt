use Rattle.std.proofs.Common.{◌≡◌, ◌<◌, ◌⊎◌, length}
use Rattle.flow_bits.specs.Sets.{Has, Tells}
use Rattle.callee_view.specs.Seen.{IsResultLeaf}
use Rattle.contract_facts.proofs.sets.add_result.Given as goal

abbrev pub invariant-loop-leaf : goal.invariant-loop-leaf
invariant-loop-leaf l = record {
  size : length l.into ≡ length l.program.leaves;
  set : Tells l.into (λ v. Has l.initial.into v ⊎ ((v < l.leaf) × IsResultLeaf l.program l.body.0 v));
}
