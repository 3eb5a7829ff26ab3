use Rattle.std.proofs.Common.{◌≡◌, ℕ, ◌⊎◌, ◌↔◌, length, []}
use Rattle.std.specs.Prelude.{slice_get, slice_index_or}
use Rattle.call_lists.specs.Lists.{AreLists, Names, NamesBelow}
use Rattle.program_layout.specs.Made.{SeesNoContract}
use Rattle.program_layout.proofs.views.add_seen_row.Given as goal

abbrev pub invariant-loop-caller : goal.invariant-loop-caller
invariant-loop-caller l = record {
  lists : AreLists (length l.program.bodies) l.sees.items;
  names : (b c : ℕ) → Names (slice_index_or l.sees.items b []) c
      ↔ (Names (slice_index_or l.initial.sees.items b []) c
      ⊎ (((c ≡ l.body.0) × SeesNoContract l.program (slice_get l.program.bodies b) l.body.0) × NamesBelow l.caller-index l.callers b));
}
