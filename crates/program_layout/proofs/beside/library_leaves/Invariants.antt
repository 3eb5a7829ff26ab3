use Rattle.std.proofs.Common.{◌≡◌, ℕ, ◌<◌, ◌↔◌, false, length}
use Rattle.std.specs.Prelude.{slice_index_or, IsTrue}
use Rattle.program_layout.specs.Made.{IsLibraryLeaf}
use Rattle.program_layout.proofs.beside.library_leaves.Given as goal

abbrev pub invariant-loop-leaf : goal.invariant-loop-leaf
invariant-loop-leaf l = record {
  size : length l.flags ≡ l.leaf;
  flags : (v : ℕ) → v < l.leaf → IsTrue (slice_index_or l.flags v false) ↔ IsLibraryLeaf l.program v;
}
