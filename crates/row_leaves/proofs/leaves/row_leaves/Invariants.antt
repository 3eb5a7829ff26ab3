use Rattle.std.proofs.Common.{◌≡◌, ℕ, [], length}
use Rattle.std.specs.Prelude.{slice_index_or}
use Rattle.row_leaves.specs.Search.{IsRowBelow}
use Rattle.row_leaves.proofs.leaves.row_leaves.Given as goal

abbrev pub invariant-loop-v : goal.invariant-loop-v
invariant-loop-v l = record {
  size : length l.outer.items ≡ length l.bodies.sees;
  rows : (b : ℕ) → IsRowBelow l.bodies b l.v (slice_index_or l.outer.items b []);
}
