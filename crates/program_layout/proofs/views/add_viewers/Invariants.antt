use Rattle.std.proofs.Common.{◌≡◌, ℕ, ◌<◌, ◌⊎◌, ◌↔◌, All, false, length, []}
use Rattle.std.specs.Prelude.{slice_get, slice_index_or, IsTrue}
use Rattle.call_lists.specs.Lists.{Names, NamesBelow}
use Rattle.program_layout.specs.Made.{IsSeenInContract}
use Rattle.program_layout.proofs.views.add_viewers.Given as goal

abbrev pub invariant-loop-caller : goal.invariant-loop-caller
invariant-loop-caller l = record {
  size : length l.holders.items ≡ length l.initial.holders.items;
  below : All (λ list. All (λ b. b.0 < length l.program.bodies) list) l.holders.items;
  names : (v b : ℕ) → Names (slice_index_or l.holders.items v []) b
      ↔ (Names (slice_index_or l.initial.holders.items v []) b
      ⊎ ((IsTrue (slice_index_or l.library v false) × IsSeenInContract l.program (slice_get l.program.bodies b) l.fn.body.0 v) ×
      NamesBelow l.caller-index l.callers b));
}
