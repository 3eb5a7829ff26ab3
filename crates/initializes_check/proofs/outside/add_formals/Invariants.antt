use Rattle.std.proofs.Common.{◌≡◌, ℕ, ◌↔◌, ◌⊎◌, length, drop}
use Rattle.flow_bits.specs.Sets.{Has}
use Rattle.callee_view.specs.Seen.{IsFormalLeaf, is_moved_in}
use Rattle.initializes_check.proofs.outside.add_formals.Given as goal

abbrev pub invariant-loop-formal : goal.invariant-loop-formal
invariant-loop-formal l = record {
  size : length l.into ≡ length l.initial.into;
  set : (v : ℕ) → (Has l.into v ⊎ IsFormalLeaf l.program is_moved_in (drop l.formal-index l.formals) v) ↔ (Has l.initial.into v ⊎ IsFormalLeaf l.program is_moved_in l.formals v);
}
