use Rattle.std.proofs.Common.{ℕ, ◌≡◌, ◌↔◌, ◌⊎◌, length, drop}
use Rattle.flow_bits.specs.Sets.{Has}
use Rattle.callee_view.specs.Seen.{IsFormalLeaf}
use Rattle.contract_facts.specs.Uses.{formal_test}
use Rattle.contract_facts.proofs.sets.add_formals.Given as goal

abbrev pub invariant-loop-formal : goal.invariant-loop-formal
invariant-loop-formal l = record {
  size : length l.into ≡ length l.initial.into;
  set : (v : ℕ) → (Has l.into v ⊎ IsFormalLeaf l.program (formal_test l.wanted) (drop l.formal-index l.formals) v) ↔ (Has l.initial.into v ⊎ IsFormalLeaf l.program (formal_test l.wanted) l.formals v);
}
