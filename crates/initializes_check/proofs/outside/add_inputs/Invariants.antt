use Rattle.std.proofs.Common.{◌≡◌, ℕ, ◌↔◌, ◌⊎◌, length, drop}
use Rattle.flow_bits.specs.Sets.{Has}
use Rattle.callee_view.specs.Seen.{IsGlobalLeaf, is_read}
use Rattle.initializes_check.proofs.outside.add_inputs.Given as goal

abbrev pub invariant-loop-global : goal.invariant-loop-global
invariant-loop-global l = record {
  size : length l.into ≡ length l.initial.into;
  set : (v : ℕ) → (Has l.into v ⊎ IsGlobalLeaf l.program is_read (drop l.global-index l.globals) v) ↔ (Has l.initial.into v ⊎ IsGlobalLeaf l.program is_read l.globals v);
}
