-- Where the facts of one row stand.
use Rattle.std.proofs.Common.{◌≡◌, ℕ, zero, suc, ◌+◌, ◌-◌, ◌*◌, ◌/◌, ◌<◌, ◌≤◌, inl, inr, List, length, refl, sym, ap, ◌∙◌, subst, arith, le_refl}
use Rattle.std.proofs.lemmas.Bool.{cases_lt}
use Rattle.std.proofs.lemmas.Option.{slice_get_within}
use Rattle.spark_base.specs.declared.numbers.LeafNo.{LeafNo}
use Rattle.flow_bits.specs.Words.{words_for}
use Rattle.summary_rows.specs.Facts.{Part, Returning, Reading, Writing, Keeping, Depending, part_no}
use Rattle.summary_rows.specs.Layout.{row_size, reads_from, writes_from, keeps_from, depends_from, IsAt, Stands, IsIncreasing}
use Rattle.summary_rows.proofs.Pairs.{pair_below}

pub at_below : (outer : List LeafNo) (v i : ℕ) → IsAt outer v i → i < length outer
at_below outer v i a = slice_get_within outer i (record { 0 = v }) a

room : (r i : ℕ) → i < r → i < 64 * words_for r
room r i h = omega (arith, h)

-- a fact stands within its row
pub stands_below : (outer : List LeafNo) (x : Part) (n : ℕ) → Stands outer x n → n < 64 * row_size (length outer)
stands_below outer Returning n s = omega (arith, s)
stands_below outer (Reading v) n s = let h = room (length outer) s.0 (at_below outer v s.0 s.1.0) in let e = s.1.1 in omega (arith, h, e)
stands_below outer (Writing v) n s = let h = room (length outer) s.0 (at_below outer v s.0 s.1.0) in let e = s.1.1 in omega (arith, h, e)
stands_below outer (Keeping v) n s = let h = room (length outer) s.0 (at_below outer v s.0 s.1.0) in let e = s.1.1 in omega (arith, h, e)
stands_below outer (Depending v w) n s =
    let p = pair_below s.0 s.1.0 (length outer) (at_below outer v s.0 s.1.1.0) (at_below outer w s.1.0 s.1.1.1.0) in
    let h = room (length outer * length outer) (s.0 * length outer + s.1.0) p in
    let e = s.1.1.1.1 in
    omega (arith, h, e)

-- the words of each part, and the first of them
width : ℕ → ℕ → ℕ
width r zero = 1
width r (suc zero) = words_for r
width r (suc (suc zero)) = words_for r
width r (suc (suc (suc zero))) = words_for r
width r (suc (suc (suc (suc k)))) = words_for (r * r)

word_from : ℕ → ℕ → ℕ
word_from r zero = 0
word_from r (suc k) = word_from r k + width r k

word_from_grows : (r a k b : ℕ) → b ≡ a + k → word_from r a ≤ word_from r b
unfolding word_from
word_from_grows r a zero b e = let d : a ≡ b = omega (arith, e) in subst (λ (m : ℕ). word_from r a ≤ word_from r m) d (le_refl (word_from r a))
word_from_grows r a (suc k) b e =
    let h : word_from r a ≤ word_from r (a + k) = word_from_grows r a k (a + k) refl in
    let d : suc (a + k) ≡ b = omega (arith, e) in
    let step : word_from r a ≤ word_from r (suc (a + k)) = omega (arith, h) in
    subst (λ (m : ℕ). word_from r a ≤ word_from r m) d step

-- a fact stands in the words of its part
in_part : (outer : List LeafNo) (x : Part) (n : ℕ) → Stands outer x n
    → (64 * word_from (length outer) (part_no x) ≤ n) × (n < 64 * word_from (length outer) (suc (part_no x)))
unfolding word_from width
in_part outer Returning n s = (omega (arith, s), omega (arith, s))
in_part outer (Reading v) n s =
    let h = room (length outer) s.0 (at_below outer v s.0 s.1.0) in let e = s.1.1 in (omega (arith, h, e), omega (arith, h, e))
in_part outer (Writing v) n s =
    let h = room (length outer) s.0 (at_below outer v s.0 s.1.0) in let e = s.1.1 in (omega (arith, h, e), omega (arith, h, e))
in_part outer (Keeping v) n s =
    let h = room (length outer) s.0 (at_below outer v s.0 s.1.0) in let e = s.1.1 in (omega (arith, h, e), omega (arith, h, e))
in_part outer (Depending v w) n s =
    let p = pair_below s.0 s.1.0 (length outer) (at_below outer v s.0 s.1.1.0) (at_below outer w s.1.0 s.1.1.1.0) in
    let h = room (length outer * length outer) (s.0 * length outer + s.1.0) p in
    let e = s.1.1.1.1 in
    (omega (arith, h, e), omega (arith, h, e))

-- facts that stand in one word are of one part
pub one_part : (outer : List LeafNo) (x y : Part) (n m : ℕ) → Stands outer x n → Stands outer y m → n / 64 ≡ m / 64 → part_no x ≡ part_no y
one_part outer x y n m s t e =
    let r = length outer in
    let a = part_no x in
    let b = part_no y in
    let p = in_part outer x n s in
    let q = in_part outer y m t in
    let p0 = p.0 in
    let p1 = p.1 in
    let q0 = q.0 in
    let q1 = q.1 in
    elim (cases_lt a b) [
      | inl lt ↦ absurd (let g = word_from_grows r (suc a) (b - suc a) b (omega (arith, lt)) in omega (arith, g, p1, q0, e))
      | inr ge ↦ (elim (cases_lt b a) [
        | inl lt ↦ absurd (let g = word_from_grows r (suc b) (a - suc b) a (omega (arith, lt)) in omega (arith, g, p0, q1, e))
        | inr le ↦ omega (arith, ge, le)
      ])
    ]

-- a leaf stands at one place
at_one : (outer : List LeafNo) → IsIncreasing outer → (v i j : ℕ) → IsAt outer v i → IsAt outer v j → i ≡ j
at_one outer rises v i j a b = elim (cases_lt i j) [
  | inl l ↦ absurd (let h = rises v v i j a b l in omega (arith, h))
  | inr g ↦ (elim (cases_lt j i) [
    | inl l ↦ absurd (let h = rises v v j i b a l in omega (arith, h))
    | inr k ↦ omega (arith, g, k)
  ])
]

-- a fact stands at one bit
pub one_bit : (outer : List LeafNo) → IsIncreasing outer → (x : Part) (n m : ℕ) → Stands outer x n → Stands outer x m → n ≡ m
one_bit outer rises Returning n m s t = s ∙ sym t
one_bit outer rises (Reading v) n m s t = s.1.1 ∙ ap (λ (k : ℕ). reads_from (length outer) + k) (at_one outer rises v s.0 t.0 s.1.0 t.1.0) ∙ sym t.1.1
one_bit outer rises (Writing v) n m s t = s.1.1 ∙ ap (λ (k : ℕ). writes_from (length outer) + k) (at_one outer rises v s.0 t.0 s.1.0 t.1.0) ∙ sym t.1.1
one_bit outer rises (Keeping v) n m s t = s.1.1 ∙ ap (λ (k : ℕ). keeps_from (length outer) + k) (at_one outer rises v s.0 t.0 s.1.0 t.1.0) ∙ sym t.1.1
one_bit outer rises (Depending v w) n m s t =
    let i = at_one outer rises v s.0 t.0 s.1.1.0 t.1.1.0 in
    let j = at_one outer rises w s.1.0 t.1.0 s.1.1.1.0 t.1.1.1.0 in
    s.1.1.1.1
    ∙ ap (λ (k : ℕ). depends_from (length outer) + (k * length outer + s.1.0)) i
    ∙ ap (λ (k : ℕ). depends_from (length outer) + (t.0 * length outer + k)) j
    ∙ sym t.1.1.1.1
