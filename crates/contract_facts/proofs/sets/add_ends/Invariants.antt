use Rattle.std.proofs.Common.{ℕ, ◌≡◌, ◌↔◌, ◌⊎◌, length, drop}
use Rattle.flow_bits.specs.Sets.{Has}
use Rattle.callee_view.specs.Seen.{IsPairLeaf}
use Rattle.contract_facts.proofs.sets.add_ends.Given as goal

abbrev pub invariant-loop-pair : goal.invariant-loop-pair
invariant-loop-pair l = record {
  size : length l.into ≡ length l.initial.into;
  set : (v : ℕ) → (Has l.into v ⊎ IsPairLeaf l.program (drop l.pair-index l.pairs) v) ↔ (Has l.initial.into v ⊎ IsPairLeaf l.program l.pairs v);
}
