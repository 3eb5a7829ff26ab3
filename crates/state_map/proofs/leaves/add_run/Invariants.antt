use Rattle.std.proofs.Common.{ℕ, ◌≡◌, ◌+◌, ◌<◌, ◌≤◌, ◌↔◌, ◌⊎◌, length}
use Rattle.flow_bits.specs.Sets.{Has}
use Rattle.state_map.proofs.leaves.add_run.Given as goal

abbrev pub invariant-loop-leaf : goal.invariant-loop-leaf
invariant-loop-leaf l = record {
  size : length l.into ≡ length l.initial.into;
  begun : l.from ≤ l.leaf;
  last : l.leaf ≤ l.from + l.count;
  set : (v : ℕ) → Has l.into v ↔ (Has l.initial.into v ⊎ ((l.from ≤ v) × (v < l.leaf)));
}
