use Rattle.std.proofs.Common.{◌≡◌, ℕ, ◌<◌, ◌⊎◌, ◌↔◌, All, length, []}
use Rattle.std.specs.Prelude.{slice_index_or, IsSomeAnd}
use Rattle.core_form.specs.Fine.{home_of}
use Rattle.call_lists.specs.Lists.{Names}
use Rattle.flow_relations.specs.Equation.{IsPassed}
use Rattle.program_layout.proofs.holders.add_passed.Given as goal

abbrev pub invariant-loop-leaf : goal.invariant-loop-leaf
invariant-loop-leaf l = record {
  size : length l.holders.items ≡ length l.program.leaves;
  below : All (λ list. All (λ b. b.0 < length l.program.bodies) list) l.holders.items;
  names : (v b : ℕ) → Names (slice_index_or l.holders.items v []) b
      ↔ (Names (slice_index_or l.initial.holders.items v []) b ⊎ ((v < l.leaf) × IsSomeAnd (home_of l.program v) (IsPassed b)));
}
