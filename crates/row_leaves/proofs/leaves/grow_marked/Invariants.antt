use Rattle.std.proofs.Common.{◌≡◌, ℕ, ◌<◌, ◌≤◌, [], false, length}
use Rattle.std.specs.Prelude.{slice_index_or}
use Rattle.row_leaves.specs.Search.{grown}
use Rattle.row_leaves.proofs.leaves.grow_marked.Given as goal

abbrev pub invariant-loop-b : goal.invariant-loop-b
invariant-loop-b l = record {
  size : length l.outer.items ≡ length l.initial.outer.items;
  below : (c : ℕ) → c < l.b → slice_index_or l.outer.items c [] ≡ grown l.v (slice_index_or l.marks c false) (slice_index_or l.initial.outer.items c []);
  above : (c : ℕ) → l.b ≤ c → slice_index_or l.outer.items c [] ≡ slice_index_or l.initial.outer.items c [];
}
