use Rattle.std.proofs.Common.{◌≡◌, ℕ, ◌<◌, ◌⊎◌, ◌↔◌, All, false, length, []}
use Rattle.std.specs.Prelude.{slice_index_or, IsTrue}
use Rattle.call_lists.specs.Lists.{Names}
use Rattle.flow_relations.specs.Equation.{clock_among, code_of_body, names_of}
use Rattle.program_layout.proofs.named.add_named.Given as goal

abbrev pub invariant-loop-b : goal.invariant-loop-b
invariant-loop-b l = record {
  size : length l.holders.items ≡ length l.initial.holders.items;
  below : All (λ list. All (λ b. b.0 < length l.program.bodies) list) l.holders.items;
  names : (v b : ℕ) → Names (slice_index_or l.holders.items v []) b
      ↔ (Names (slice_index_or l.initial.holders.items v []) b
      ⊎ ((b < l.b) × (IsTrue (slice_index_or l.library v false) × names_of (clock_among l.program.vars) (code_of_body l.program b) v)));
}
