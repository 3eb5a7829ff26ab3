use Rattle.std.proofs.Common.{◌≡◌, ℕ, ◌<◌, ◌≤◌, ◌⊎◌, ◌↔◌, length}
use Rattle.std.specs.Prelude.{slice_get}
use Rattle.call_lists.specs.Lists.{NamesBelow, Has}
use Rattle.row_leaves.specs.Search.{IsFound}
use Rattle.row_leaves.proofs.search.find_all.Given as goal

abbrev pub invariant-loop-b : goal.invariant-loop-b
invariant-loop-b l = record {
  found : IsFound l.marks l.found.items;
  marks : (c : ℕ) → Has l.marks c ↔ (Has l.initial.marks c ⊎ NamesBelow l.b-index l.list c);
  longer : length l.initial.found.items ≤ length l.found.items;
  kept : (k : ℕ) → k < length l.initial.found.items → slice_get l.found.items k ≡ slice_get l.initial.found.items k;
}
