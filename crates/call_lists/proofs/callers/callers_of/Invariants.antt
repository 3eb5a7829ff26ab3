use Rattle.std.proofs.Common.{◌≡◌, ℕ, ◌<◌, ◌↔◌, length, []}
use Rattle.std.specs.Prelude.{slice_index_or}
use Rattle.call_lists.specs.Lists.{AreLists, Names}
use Rattle.call_lists.proofs.callers.callers_of.Given as goal

abbrev pub invariant-loop-b : goal.invariant-loop-b
invariant-loop-b l = record {
  size : length l.callers.items ≡ length l.callees;
  lists : AreLists (length l.callers.items) l.callers.items;
  names : (b c : ℕ) → Names (slice_index_or l.callers.items c []) b ↔ ((b < l.b) × Names (slice_index_or l.callees b []) c);
}
