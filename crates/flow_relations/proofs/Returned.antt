-- What the squares of numbers tell of leaves where a body returns.
use Rattle.std.proofs.Common.{◌≡◌, ℕ, ◌+◌, ◌<◌, ◌≤◌, ◌⊎◌, ◌↔◌, inl, inr, sym, subst, ◌∙◌, arith}
use Rattle.std.proofs.lemmas.Bool.{cases_lt}
use Rattle.flow_relations.specs.declared.frame.Frame.{Frame}
use Rattle.flow_relations.specs.Framing.{AlsoOutside, IsFrame, Numbered, Spreads, frame_size, name_at}

module _ (frame : Frame) (h : IsFrame frame) where
  one_leaf : (i j : ℕ) → i ≤ frame_size frame → j ≤ frame_size frame → name_at frame i ≡ name_at frame j → i ≡ j
  one_leaf i j l m e = elim (cases_lt i j) [
    | inl k ↦ (let a = h.increasing i j k m in absurd (omega arith))
    | inr g ↦ (elim (cases_lt j i) [ inl k ↦ (let a = h.increasing j i k l in absurd (omega arith)) | inr k ↦ omega arith ])
  ]

  abbrev Leafs : (ℕ → Type 0) → ℕ → Type 0
  Leafs S v = Spreads (name_at frame) (frame_size frame) frame.void S v

  abbrev HasLeaf : ℕ → Type 0
  HasLeaf v = (i : ℕ) × ((i ≤ frame_size frame) × (name_at frame i ≡ v))

  -- a leaf of the frame is related to itself where its number is
  pub diagonal_same : (R : ℕ → ℕ → Type 0) (c : Type 0) (v : ℕ) → HasLeaf v → AlsoOutside frame R c v v ↔ Leafs (λ i. R i i) v
  diagonal_same R c v inside = (there, λ x. inl (x.0, (x.0, (x.1.0, x.1.0, x.1.1, x.1.1, x.1.2))))
    where
      there : AlsoOutside frame R c v v → Leafs (λ i. R i i) v
      there (inl (i, (j, x))) = (i, (x.0, x.2, subst (λ k. R i k) (sym (one_leaf i j x.0 x.1 (x.2 ∙ sym x.3))) x.4))
      there (inr x) = absurd (x.0.unnamed inside.0 inside.1.0 inside.1.1)

  module _ (A B : ℕ → ℕ → Type 0) (a b : Type 0) (D W N : ℕ → Type 0) (inside : (v : ℕ) → N v → HasLeaf v) where
    -- what is kept at either outcome
    pub keeps_same : (v : ℕ) → (N v × Leafs (λ i. A i i ⊎ B i i) v) ↔ (N v × (AlsoOutside frame A a v v ⊎ AlsoOutside frame B b v v))
    keeps_same v = (there, back)
      where
        there : (N v × Leafs (λ i. A i i ⊎ B i i) v) → (N v × (AlsoOutside frame A a v v ⊎ AlsoOutside frame B b v v))
        there (x, (i, (l, e, inl y))) = (x, inl ((diagonal_same A a v (inside v x)).1 (i, (l, e, y))))
        there (x, (i, (l, e, inr y))) = (x, inr ((diagonal_same B b v (inside v x)).1 (i, (l, e, y))))

        back : (N v × (AlsoOutside frame A a v v ⊎ AlsoOutside frame B b v v)) → (N v × Leafs (λ i. A i i ⊎ B i i) v)
        back (x, inl y) = let z = (diagonal_same A a v (inside v x)).0 y in (x, (z.0, (z.1.0, z.1.1, inl z.1.2)))
        back (x, inr y) = let z = (diagonal_same B b v (inside v x)).0 y in (x, (z.0, (z.1.0, z.1.1, inr z.1.2)))

    abbrev Pairs : ℕ → ℕ → Type 0
    Pairs i j = ((A i j ⊎ B i j) ⊎ ((a × b) × (D i × W j)))

    module _ (M : ℕ → ℕ → Type 0) (numbers : (i j : ℕ) → M i j ↔ (Pairs i j × (((i < frame_size frame + 1) × N (name_at frame i)) × ((j < frame_size frame + 1) × N (name_at frame j))))) where
      -- what decides at either outcome, or by the outcome
      pub depends_same : (v w : ℕ) → Numbered frame M v w ↔ ((N v × N w) × (AlsoOutside frame A a v w ⊎ (AlsoOutside frame B b v w ⊎ (a × b × Leafs D v × Leafs W w))))
      depends_same v w = (λ x. there x, λ x. back x)
        where
          at : (i j : ℕ) → i ≤ frame_size frame → j ≤ frame_size frame → name_at frame i ≡ v → name_at frame j ≡ w → N v → N w → Pairs i j → Numbered frame M v w
          at i j l m e f x y p = (i, (j, (l, m, e, f, (numbers i j).1 (p, ((omega arith, subst N (sym e) x), (omega arith, subst N (sym f) y))))))

          pair : (i j : ℕ) → i ≤ frame_size frame → j ≤ frame_size frame → name_at frame i ≡ v → name_at frame j ≡ w → Pairs i j → AlsoOutside frame A a v w ⊎ (AlsoOutside frame B b v w ⊎ (a × b × Leafs D v × Leafs W w))
          pair i j l m e f (inl (inl x)) = inl (inl (i, (j, (l, m, e, f, x))))
          pair i j l m e f (inl (inr x)) = inr (inl (inl (i, (j, (l, m, e, f, x)))))
          pair i j l m e f (inr x) = inr (inr (x.0.0, x.0.1, (i, (l, e, x.1.0)), (j, (m, f, x.1.1))))

          there : Numbered frame M v w → ((N v × N w) × (AlsoOutside frame A a v w ⊎ (AlsoOutside frame B b v w ⊎ (a × b × Leafs D v × Leafs W w))))
          there (i, (j, (l, m, e, f, r))) =
              let t = (numbers i j).0 r in
              ((subst N e t.1.0.1, subst N f t.1.1.1), pair i j l m e f t.0)

          back : ((N v × N w) × (AlsoOutside frame A a v w ⊎ (AlsoOutside frame B b v w ⊎ (a × b × Leafs D v × Leafs W w)))) → Numbered frame M v w
          back ((x, y), inl (inl (i, (j, r)))) = at i j r.0 r.1 r.2 r.3 x y (inl (inl r.4))
          back ((x, y), inl (inr r)) = let k = inside v x in absurd (r.0.unnamed k.0 k.1.0 k.1.1)
          back ((x, y), inr (inl (inl (i, (j, r))))) = at i j r.0 r.1 r.2 r.3 x y (inl (inr r.4))
          back ((x, y), inr (inl (inr r))) = let k = inside v x in absurd (r.0.unnamed k.0 k.1.0 k.1.1)
          back ((x, y), inr (inr r)) = at r.2.0 r.3.0 r.2.1.0 r.3.1.0 r.2.1.1 r.3.1.1 x y (inr ((r.0, r.1), (r.2.1.2, r.3.1.2)))
