use Rattle.std.proofs.Common.{ℕ, ◌≡◌, ◌↔◌, ◌⊎◌, length, drop}
use Rattle.flow_bits.specs.Sets.{Has}
use Rattle.callee_view.specs.Seen.{IsGlobalLeaf}
use Rattle.contract_facts.specs.Uses.{mode_test}
use Rattle.contract_facts.proofs.sets.add_globals.Given as goal

abbrev pub invariant-loop-global : goal.invariant-loop-global
invariant-loop-global l = record {
  size : length l.into ≡ length l.initial.into;
  set : (v : ℕ) → (Has l.into v ⊎ IsGlobalLeaf l.program (mode_test l.wanted) (drop l.global-index l.globals) v) ↔ (Has l.initial.into v ⊎ IsGlobalLeaf l.program (mode_test l.wanted) l.globals v);
}
