-- The bits of what a row tells are those of the facts of a summary that it is.
use Rattle.std.proofs.Common.{◌≡◌, ◌⊎◌, ◌↔◌, inl, inr, refl, ℕ, ◌+◌, ◌*◌, ◌<◌, ◌≤◌, List, Option, Some, None, length, get_or, sym, ap, ◌∙◌, subst, arith}
use Rattle.std.specs.Prelude.{IsSomeAnd}
use Rattle.std.proofs.lemmas.Bool.{cases_lt}
use Rattle.std.proofs.lemmas.Option.{slice_get-get_or}
use Rattle.spark_base.specs.declared.numbers.LeafNo.{LeafNo}
use Rattle.flow_bits.specs.Sets.{Relates}
use Rattle.flow_facts.specs.Flow.{Summary}
use Rattle.summary_rows.specs.Bits.{Bit}
use Rattle.summary_rows.specs.Facts.{Part, Returning, Reading, Writing, Keeping, Depending}
use Rattle.summary_rows.specs.Layout.{IsAt, Stands, depends_from}
use Rattle.flow_relations.specs.declared.equation.BodyRow.{BodyRow}
use Rattle.flow_relations.specs.Framing.{IsFrame, frame_size, name_at}
use Rattle.flow_relations.specs.Told.{IsRow}
use Rattle.row_equations.specs.Packing.{holds, told_by, AreNumbers, AtNumber, AtNumbers, AtRow, IsNumber, number_at}
use Rattle.row_equations.proofs.First.{number_within}

some_number : (o : Option ℕ) (S : ℕ → Type 0) → IsSomeAnd o S → (k : ℕ) × ((o ≡ Some k) × S k)
some_number None S h = absurd h
some_number (Some k) S h = (k, (refl, h))

module _ (row : BodyRow) (outer : List LeafNo) (numbers : List (Option ℕ)) (frame : IsFrame row.frame) (are : AreNumbers row.frame outer numbers) where
  -- a name has one number
  one_number : (k m : ℕ) → k ≤ frame_size row.frame → m ≤ frame_size row.frame → name_at row.frame k ≡ name_at row.frame m → k ≡ m
  one_number k m hk hm e = elim (cases_lt k m) [
    | inl l ↦ absurd (let s = frame.increasing k m l hm in omega (arith, s, e))
    | inr g ↦ (elim (cases_lt m k) [
      | inl l ↦ absurd (let s = frame.increasing m k l hk in omega (arith, s, e))
      | inr f ↦ omega (arith, f, g)
    ])
  ]

  -- the number at the place of a leaf is that of the leaf
  number_is : (v i k : ℕ) → IsAt outer v i → k ≤ frame_size row.frame → name_at row.frame k ≡ v → number_at numbers i ≡ Some k
  number_is v i k a h e = cases (number_at numbers i) (are.each v i a)
    where
      cases : (o : Option ℕ) → IsNumber row.frame v o → o ≡ Some k
      cases None n = absurd (n k h e)
      cases (Some m) n = ap (λ (j : ℕ). Some j) (one_number m k (let l = n.0 in omega (arith, l)) h (n.1 ∙ sym e))

  -- and it is of a leaf
  leaf_is : (i k : ℕ) → number_at numbers i ≡ Some k → i < length numbers
      → (v : ℕ) × (IsAt outer v i × ((k ≤ frame_size row.frame) × (name_at row.frame k ≡ v)))
  leaf_is i k e l =
      let leaf : LeafNo = get_or outer i (record { 0 = 0 }) in
      let c = are.count in
      let a : IsAt outer leaf.0 i = slice_get-get_or outer i (record { 0 = 0 }) (omega (arith, c, l)) in
      let n : IsNumber row.frame leaf.0 (Some k) = subst (λ (o : Option ℕ). IsNumber row.frame leaf.0 o) e (are.each leaf.0 i a) in
      (leaf.0, (a, (let h = n.0 in omega (arith, h), n.1)))

  module _ (n : ℕ) where
    abbrev Holds : Type 0
    Holds = (x : Part) × (Stands outer x n × holds (told_by row) x)

    abbrev first : ℕ
    first = depends_from (length outer)

    of_number : (i k j m : ℕ) → number_at numbers i ≡ Some k → i < length numbers → number_at numbers j ≡ Some m → j < length numbers
        → n ≡ (first + i * length numbers) + j → Relates row.depends k m → Holds
    of_number i k j m ei li ej lj e r =
        let v = leaf_is i k ei li in
        let w = leaf_is j m ej lj in
        let q : i * length numbers ≡ i * length outer = ap (λ (c : ℕ). i * c) are.count in (
          Depending v.0 w.0,
          (
            (i, (j, (v.1.0, (w.1.0, omega (arith, e, q))))),
            (k, (m, (v.1.1.0, w.1.1.0, v.1.1.1, w.1.1.1, r))),
          ),
        )

    of_numbers : AtNumbers numbers first (Relates row.depends) n → Holds
    of_numbers t =
        let S : ℕ → Type 0 = λ k. AtNumber numbers (first + t.0 * length numbers) (Relates row.depends k) n in
        let a = some_number (number_at numbers t.0) S t.1 in
        let u = a.1.1 in
        let b = some_number (number_at numbers u.0) (Relates row.depends a.0) u.1.1 in
        of_number t.0 a.0 u.0 b.0 a.1.0 (number_within numbers t.0 S t.1) b.1.0 (number_within numbers u.0 (Relates row.depends a.0) u.1.1) u.1.0 b.1.1

    there : AtRow row outer numbers n → Holds
    there (inl t) = (Returning, (t.0, t.1))
    there (inr (inl t)) = (Reading t.1, ((t.0, (t.2.0, t.2.1.0)), t.2.1.1))
    there (inr (inr (inl t))) = (Writing t.1, ((t.0, (t.2.0, t.2.1.0)), t.2.1.1))
    there (inr (inr (inr (inl t)))) = (Keeping t.1, ((t.0, (t.2.0, t.2.1.0)), t.2.1.1))
    there (inr (inr (inr (inr t)))) = of_numbers t

    back : (x : Part) → Stands outer x n → holds (told_by row) x → AtRow row outer numbers n
    back Returning t h = inl (t, h)
    back (Reading v) t h = inr (inl (t.0, v, (t.1.0, (t.1.1, h))))
    back (Writing v) t h = inr (inr (inl (t.0, v, (t.1.0, (t.1.1, h)))))
    back (Keeping v) t h = inr (inr (inr (inl (t.0, v, (t.1.0, (t.1.1, h))))))
    back (Depending v w) t h =
        let d = h in
        let k = d.0 in
        let m = d.1.0 in
        let i = t.0 in
        let j = t.1.0 in
        let e = t.1.1.1.1 in
        let q : i * length numbers ≡ i * length outer = ap (λ (c : ℕ). i * c) are.count in
        let ei = number_is v i k t.1.1.0 d.1.1.0 d.1.1.2 in
        let ej = number_is w j m t.1.1.1.0 d.1.1.1 d.1.1.3 in
        let one : AtNumber numbers (first + i * length numbers) (Relates row.depends k) n =
        (j, (omega (arith, e, q), subst (λ (o : Option ℕ). IsSomeAnd o (Relates row.depends k)) (sym ej) d.1.1.4)) in
        inr (inr (inr (inr (
          i,
          subst (λ (o : Option ℕ). IsSomeAnd o (λ c. AtNumber numbers (first + i * length numbers) (Relates row.depends c) n)) (sym ei) one,
        ))))

    pub packed : (old new : List ℕ) → ((k : ℕ) → Bit old k → ⊥) → (Bit new n ↔ (Bit old n ⊎ AtRow row outer numbers n)) → Bit new n ↔ Holds
    packed old new none h = (
      λ b. elim (h.0 b) [ inl o ↦ absurd (none n o) | inr t ↦ there t ],
      λ t. h.1 (inr (back t.0 t.1.0 t.1.1)),
    )

-- where the bits of five parts were set one after the other
pub chained : {A B C D E F P Q R S T : Type 0} → (B ↔ (A ⊎ P)) → (C ↔ (B ⊎ Q)) → (D ↔ (C ⊎ R)) → (E ↔ (D ⊎ S)) → (F ↔ (E ⊎ T))
    → F ↔ (A ⊎ (P ⊎ (Q ⊎ (R ⊎ (S ⊎ T)))))
chained b c d e f = grind (arith, b, c, d, e, f)

-- rows that tell a summary have its facts
pub facts_same : (row : BodyRow) (s : Summary) → IsRow row s → (x : Part) → holds (told_by row) x ↔ holds s x
facts_same row s is Returning = is.returns
facts_same row s is (Reading v) = is.reads v
facts_same row s is (Writing v) = is.writes v
facts_same row s is (Keeping v) = is.keeps v
facts_same row s is (Depending v w) = is.depends v w
