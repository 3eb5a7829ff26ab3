use Rattle.std.proofs.Common.{◌≡◌, ℕ, ◌<◌, length}
use Rattle.std.specs.Prelude.{slice_index_or}
use Rattle.program_layout.specs.Rows.{beside_below}
use Rattle.program_layout.proofs.beside.leaves_beside.Given as goal

abbrev pub invariant-loop-leaf : goal.invariant-loop-leaf
invariant-loop-leaf l = record {
  size : length l.counts.items ≡ length l.program.bodies;
  counts : (b : ℕ) → b < length l.program.bodies → slice_index_or l.counts.items b 0 ≡ beside_below l.program b l.leaf;
}
