-- The ends of a flow, one outcome more at a time.
use Rattle.std.proofs.Common.{◌≡◌, ℕ, zero, suc, ◌⊎◌, ◌↔◌, inl, inr, Bool, true, false, List, [], ◌∷◌, ◌++◌, length, refl, arith}
use Rattle.std.specs.Prelude.{All, IsTrue, slice_index_or}
use Rattle.core_form.specs.Code.{Outcome, Next, Leaves, Returns}
use Rattle.flow_relations.specs.declared.flows.End.{End}
use Rattle.flow_relations.specs.declared.flows.Outcome.{Outcome as EndOutcome}
use Rattle.flow_facts.specs.declared.sides.Side.{Side}
use Rattle.flow_bits.specs.Sets.{Relates}
use Rattle.flow_facts.specs.Told.{IsSideSized, no_side, side_of}
use Rattle.flow_relations.specs.Told.{AreEndsSized, SomeEnd, ends_tell, outcome_of}
use Rattle.flow_facts.proofs.Outcomes.{each_sized, reached_dep, reached_kept}
use Rattle.std.proofs.lemmas.List.Elements.{All-append}

some_parts : (P : End → Type 0) (xs ys : List End) → SomeEnd P (xs ++ ys) ↔ (SomeEnd P xs ⊎ SomeEnd P ys)
some_parts P [] ys = (λ h. inr h, λ h. elim h [ inl x ↦ absurd x | inr y ↦ y ])
some_parts P (x ∷ xs) ys =
    let rest = some_parts P xs ys in (
      λ h. elim h [ inl a ↦ inl (inl a) | inr b ↦ (elim (rest.0 b) [ inl c ↦ inl (inr c) | inr d ↦ inr d ]) ],
      λ h. elim h [ inl a ↦ (elim a [ inl b ↦ inl b | inr c ↦ inr (rest.1 (inl c)) ]) | inr d ↦ inr (rest.1 (inr d)) ],
    )

-- what is told of one end
one_end : (P : End → Type 0) (o : EndOutcome) (b : Bool) (kept dep : List (List Bool)) → SomeEnd P (ends_tell o b kept dep) ↔ (IsTrue b × P (record { outcome = o; kept = kept; dep = dep }))
one_end P o true kept dep = (λ h. elim h [ inl x ↦ (refl, x) | inr y ↦ absurd y ], λ h. inl h.1)
one_end P o false kept dep = (λ h. absurd h, λ h. let z : false ≡ true = h.0 in absurd (cc))

module _ (next back : Side) where
  abbrev pub ends : List End
  ends = ends_tell EndOutcome.Next next.reached next.kept next.dep ++ ends_tell EndOutcome.Back back.reached back.kept back.dep

  both_ends : (P : End → Type 0) → SomeEnd P ends ↔ ((IsTrue next.reached × P (record { outcome = EndOutcome.Next; kept = next.kept; dep = next.dep })) ⊎ (IsTrue back.reached × P (record { outcome = EndOutcome.Back; kept = back.kept; dep = back.dep })))
  both_ends P =
      let parts = some_parts P (ends_tell EndOutcome.Next next.reached next.kept next.dep) (ends_tell EndOutcome.Back back.reached back.kept back.dep) in
      let first = one_end P EndOutcome.Next next.reached next.kept next.dep in
      let second = one_end P EndOutcome.Back back.reached back.kept back.dep in (
        λ h. elim (parts.0 h) [ inl x ↦ inl (first.0 x) | inr x ↦ inr (second.0 x) ],
        λ h. parts.1 (elim h [ inl x ↦ inl (first.1 x) | inr x ↦ inr (second.1 x) ]),
      )

  module _ (leaves : List Side) (n : ℕ) (next_sized : IsSideSized n next) (back_sized : IsSideSized n back) (sized : All (IsSideSized n) leaves) (none : (k : ℕ) → IsTrue (slice_index_or leaves k no_side).reached → ⊥) where
    pub ends_can : (o : Outcome) → SomeEnd (λ e. outcome_of e.outcome ≡ o) ends ↔ IsTrue (side_of next back leaves o).reached
    ends_can Next = let b = both_ends (λ e. outcome_of e.outcome ≡ Next) in (λ h. elim (b.0 h) [ inl x ↦ x.0 | inr x ↦ absurd (cc) ], λ t. b.1 (inl (t, refl)))
    ends_can (Leaves k) = let b = both_ends (λ e. outcome_of e.outcome ≡ Leaves k) in (λ h. elim (b.0 h) [ inl x ↦ absurd (cc) | inr x ↦ absurd (cc) ], λ t. absurd (none k t))
    ends_can Returns = let b = both_ends (λ e. outcome_of e.outcome ≡ Returns) in (λ h. elim (b.0 h) [ inl x ↦ absurd (cc) | inr x ↦ x.0 ], λ t. b.1 (inr (t, refl)))

    pub ends_kept : (o : Outcome) (v w : ℕ) → SomeEnd (λ e. (outcome_of e.outcome ≡ o) × Relates e.kept v w) ends ↔ Relates (side_of next back leaves o).kept v w
    ends_kept Next v w = let b = both_ends (λ e. (outcome_of e.outcome ≡ Next) × Relates e.kept v w) in (λ h. elim (b.0 h) [ inl x ↦ x.1.1 | inr x ↦ (let z : Returns ≡ Next = x.1.0 in absurd (cc)) ], λ t. b.1 (inl (reached_kept n next next_sized v w t, (refl, t))))
    ends_kept (Leaves k) v w = let b = both_ends (λ e. (outcome_of e.outcome ≡ Leaves k) × Relates e.kept v w) in (λ h. elim (b.0 h) [ inl x ↦ (let z : Next ≡ Leaves k = x.1.0 in absurd (cc)) | inr x ↦ (let z : Returns ≡ Leaves k = x.1.0 in absurd (cc)) ], λ t. absurd (none k (reached_kept n (slice_index_or leaves k no_side) (each_sized n leaves sized k) v w t)))
    ends_kept Returns v w = let b = both_ends (λ e. (outcome_of e.outcome ≡ Returns) × Relates e.kept v w) in (λ h. elim (b.0 h) [ inl x ↦ (let z : Next ≡ Returns = x.1.0 in absurd (cc)) | inr x ↦ x.1.1 ], λ t. b.1 (inr (reached_kept n back back_sized v w t, (refl, t))))

    pub ends_dep : (o : Outcome) (v w : ℕ) → SomeEnd (λ e. (outcome_of e.outcome ≡ o) × Relates e.dep v w) ends ↔ Relates (side_of next back leaves o).dep v w
    ends_dep Next v w = let b = both_ends (λ e. (outcome_of e.outcome ≡ Next) × Relates e.dep v w) in (λ h. elim (b.0 h) [ inl x ↦ x.1.1 | inr x ↦ (let z : Returns ≡ Next = x.1.0 in absurd (cc)) ], λ t. b.1 (inl (reached_dep n next next_sized v w t, (refl, t))))
    ends_dep (Leaves k) v w = let b = both_ends (λ e. (outcome_of e.outcome ≡ Leaves k) × Relates e.dep v w) in (λ h. elim (b.0 h) [ inl x ↦ (let z : Next ≡ Leaves k = x.1.0 in absurd (cc)) | inr x ↦ (let z : Returns ≡ Leaves k = x.1.0 in absurd (cc)) ], λ t. absurd (none k (reached_dep n (slice_index_or leaves k no_side) (each_sized n leaves sized k) v w t)))
    ends_dep Returns v w = let b = both_ends (λ e. (outcome_of e.outcome ≡ Returns) × Relates e.dep v w) in (λ h. elim (b.0 h) [ inl x ↦ (let z : Next ≡ Returns = x.1.0 in absurd (cc)) | inr x ↦ x.1.1 ], λ t. b.1 (inr (reached_dep n back back_sized v w t, (refl, t))))

    pub ends_are_sized : AreEndsSized n ends
    ends_are_sized = All-append (λ e. (length e.kept ≡ n) × (length e.dep ≡ n)) (ends_tell EndOutcome.Next next.reached next.kept next.dep) (ends_tell EndOutcome.Back back.reached back.kept back.dep) (one_sized EndOutcome.Next next next_sized) (one_sized EndOutcome.Back back back_sized)
      where
        one_sized : (o : EndOutcome) (s : Side) → IsSideSized n s → AreEndsSized n (ends_tell o s.reached s.kept s.dep)
        one_sized o s h = cases s.reached refl
          where
            cases : (b : Bool) → s.reached ≡ b → AreEndsSized n (ends_tell o b s.kept s.dep)
            cases true e zero d l = (h.kept e, h.dep e)
            cases true e (suc k) d l = absurd (omega arith)
            cases false e k d l = absurd (omega arith)
