use Rattle.std.proofs.Common.{◌≡◌, ℕ, ◌<◌, ◌↔◌, length, []}
use Rattle.std.specs.Prelude.{slice_index_or}
use Rattle.call_lists.specs.Lists.{AreLists, Names}
use Rattle.program_layout.specs.Made.{SeesRow}
use Rattle.program_layout.proofs.views.rows_seen.Given as goal

abbrev pub invariant-loop-c : goal.invariant-loop-c
invariant-loop-c l = record {
  lists : AreLists (length l.program.bodies) l.sees.items;
  names : (b c : ℕ) → Names (slice_index_or l.sees.items b []) c ↔ ((c < l.c) × SeesRow l.program b c);
}
