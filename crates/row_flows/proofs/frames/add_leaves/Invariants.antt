use Rattle.std.proofs.Common.{◌≡◌, ℕ, ◌⊎◌, ◌↔◌, length, drop}
use Rattle.flow_bits.specs.Sets.{Has}
use Rattle.row_flows.specs.Frames.{IsIn, StandsAside}
use Rattle.row_flows.proofs.frames.add_leaves.Given as goal

abbrev pub invariant-loop-leaf : goal.invariant-loop-leaf
invariant-loop-leaf l = record {
  size : length l.into ≡ length l.initial.into;
  set : (v : ℕ) → (Has l.into v ⊎ (IsIn (drop l.leaf-index l.leaves) v × StandsAside l.void l.passed v)) ↔ (Has l.initial.into v ⊎ (IsIn l.leaves v × StandsAside l.void l.passed v));
}
