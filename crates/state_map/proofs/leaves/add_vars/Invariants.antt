use Rattle.std.proofs.Common.{ℕ, ◌≡◌, ◌↔◌, ◌⊎◌, length, drop}
use Rattle.flow_bits.specs.Sets.{Has}
use Rattle.core_form.specs.Leaves.{IsLeafOfSome}
use Rattle.state_map.proofs.leaves.add_vars.Given as goal

abbrev pub invariant-loop-var : goal.invariant-loop-var
invariant-loop-var l = record {
  size : length l.into ≡ length l.initial.into;
  set : (v : ℕ) → (Has l.into v ⊎ IsLeafOfSome l.program (drop l.var-index l.vars) v) ↔ (Has l.initial.into v ⊎ IsLeafOfSome l.program l.vars v);
}
