use Rattle.std.proofs.Common.{◌≡◌, ℕ, ◌⊎◌, ◌↔◌, length, []}
use Rattle.std.specs.Prelude.{slice_index_or}
use Rattle.call_lists.specs.Lists.{AreLists, Names, NamesBelow}
use Rattle.call_lists.proofs.callers.add_caller.Given as goal

abbrev pub invariant-loop-callee : goal.invariant-loop-callee
invariant-loop-callee l = record {
  size : length l.lists.items ≡ length l.initial.lists.items;
  lists : AreLists (length l.lists.items) l.lists.items;
  names : (c b : ℕ) → Names (slice_index_or l.lists.items c []) b
      ↔ (Names (slice_index_or l.initial.lists.items c []) b ⊎ ((b ≡ l.caller.0) × NamesBelow l.callee-index l.callees c));
}
