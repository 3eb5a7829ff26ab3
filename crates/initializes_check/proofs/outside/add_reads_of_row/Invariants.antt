use Rattle.std.proofs.Common.{◌≡◌, ℕ, ◌<◌, ◌↔◌, ◌⊎◌, length}
use Rattle.flow_bits.specs.Sets.{Has}
use Rattle.used_modes.specs.UsedModes.{row_of}
use Rattle.initializes_check.proofs.outside.add_reads_of_row.Given as goal

abbrev pub invariant-loop-leaf : goal.invariant-loop-leaf
invariant-loop-leaf l = record {
  size : length l.into ≡ length l.initial.into;
  set : (v : ℕ) → Has l.into v ↔ (Has l.initial.into v ⊎ ((v < l.leaf) × (row_of l.rows l.body.0).reads v));
}
