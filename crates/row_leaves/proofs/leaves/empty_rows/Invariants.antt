use Rattle.std.proofs.Common.{◌≡◌, ℕ, [], length}
use Rattle.std.specs.Prelude.{slice_index_or}
use Rattle.row_leaves.proofs.leaves.empty_rows.Given as goal

abbrev pub invariant-loop-b : goal.invariant-loop-b
invariant-loop-b l = record {
  size : length l.rows.items ≡ l._b;
  empty : (c : ℕ) → slice_index_or l.rows.items c [] ≡ [];
}
