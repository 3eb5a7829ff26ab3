use Rattle.std.proofs.Common.{◌≡◌, ℕ, ◌<◌, ◌⊎◌, ◌↔◌, All, false, length, []}
use Rattle.std.specs.Prelude.{slice_get, slice_index_or, IsTrue}
use Rattle.call_lists.specs.Lists.{Names}
use Rattle.body_calls.specs.Callees.{Calls}
use Rattle.program_layout.specs.Made.{IsSeenInContract}
use Rattle.program_layout.proofs.views.add_contracts.Given as goal

abbrev pub invariant-loop-c : goal.invariant-loop-c
invariant-loop-c l = record {
  size : length l.holders.items ≡ length l.initial.holders.items;
  below : All (λ list. All (λ b. b.0 < length l.program.bodies) list) l.holders.items;
  names : (v b : ℕ) → Names (slice_index_or l.holders.items v []) b
      ↔ (Names (slice_index_or l.initial.holders.items v []) b
      ⊎ (IsTrue (slice_index_or l.library v false) × ((c : ℕ) × ((c < l.c) ×
      (Calls l.program b c × IsSeenInContract l.program (slice_get l.program.bodies b) c v)))));
}
