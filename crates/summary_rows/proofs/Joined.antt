-- What rows tell, and the rows behind a join.
use Rattle.std.proofs.Common.{◌≡◌, ◌⊎◌, ◌↔◌, inl, inr, ℕ, zero, suc, ◌+◌, ◌-◌, ◌*◌, ◌/◌, ◌%◌, ◌^◌, ◌<◌, ◌≤◌, List, length, refl, sym, ap, ◌∙◌, subst, arith, le_refl}
use Rattle.std.proofs.lemmas.Bool.{cases_lt}
use Rattle.std.proofs.lemmas.List.{get_or_past}
use Rattle.spark_base.specs.declared.numbers.LeafNo.{LeafNo}
use Rattle.summary_rows.specs.declared.layout.Layout.{Layout}
use Rattle.summary_rows.specs.declared.rows.Rows.{Rows}
use Rattle.flow_bits.specs.Words.{word}
use Rattle.flow_bits.proofs.Bits.{no_bit, bit_below}
use Rattle.summary_rows.specs.Bits.{Bit, InWord}
use Rattle.summary_rows.specs.Facts.{Part, Fact}
use Rattle.summary_rows.specs.Layout.{row_size, Stands, outer_of, first_of, words_before, IsLayout, RowTells, IsTidyRow, AreRows, IsTidy, GainsFact, told}
use Rattle.summary_rows.proofs.Bits.{bit_behind}
use Rattle.summary_rows.proofs.Places.{stands_below, one_bit}

-- what the bit of a fact says, where this is the list of the row leaves
pub told_at : {P : Type 0} (rows : Rows) → AreRows rows → (b : ℕ) → b < length rows.layout.outer → (leaves : List LeafNo) → leaves ≡ outer_of rows.layout b
    → (x : Part) (n : ℕ) → Stands leaves x n → (P ↔ Bit rows.words (64 * first_of rows.layout b + n)) → P ↔ told rows (record { owner = b; part = x })
told_at rows are b l leaves e x n t h =
    let s = subst (λ (vs : List LeafNo). Stands vs x n) e t in (
      λ p. (l, (n, (s, h.0 p))),
      λ q. h.1 (subst (λ (k : ℕ). Bit rows.words (64 * first_of rows.layout b + k)) (one_bit (outer_of rows.layout b) (are.layout.increasing b) x q.1.0 n q.1.1.0 s) q.1.1.1),
    )

-- a row lies behind those of the bodies before it
before_grows : (outer : List (List LeafNo)) (a k b : ℕ) → b ≡ a + k → words_before outer a ≤ words_before outer b
before_grows outer a zero b e =
    let d : a ≡ b = omega (arith, e) in
    subst (λ (m : ℕ). words_before outer a ≤ words_before outer m) d (le_refl (words_before outer a))
before_grows outer a (suc k) b e =
    let h : words_before outer a ≤ words_before outer (a + k) = before_grows outer a k (a + k) refl in
    let d : suc (a + k) ≡ b = omega (arith, e) in
    let step : words_before outer a ≤ words_before outer (suc (a + k)) = omega (arith, h) in
    subst (λ (m : ℕ). words_before outer a ≤ words_before outer m) d step

pub before_apart : (outer : List (List LeafNo)) (a b : ℕ) → a < b → words_before outer (suc a) ≤ words_before outer b
before_apart outer a b l = before_grows outer (suc a) (b - suc a) b (omega (arith, l))

-- each row lies within the words
pub row_within : (l : Layout) → IsLayout l → (b : ℕ) → b < length l.outer → first_of l b + row_size (length (outer_of l b)) ≤ l.words
row_within l is b h =
    let f = is.first b h in
    let w = is.words in
    let m = before_apart l.outer b (length l.outer) h in
    omega (arith, f, w, m)

-- a word is of one row
pub one_row : (l : Layout) → IsLayout l → (a b w : ℕ) → a < length l.outer → b < length l.outer
    → first_of l a ≤ w → w < first_of l a + row_size (length (outer_of l a))
    → first_of l b ≤ w → w < first_of l b + row_size (length (outer_of l b)) → a ≡ b
one_row l is a b w la lb from_a to_a from_b to_b =
    let fa = is.first a la in
    let fb = is.first b lb in
    elim (cases_lt a b) [
      | inl lt ↦ absurd (let m = before_apart l.outer a b lt in omega (arith, m, fa, fb, to_a, from_b))
      | inr ge ↦ (elim (cases_lt b a) [
        | inl lt ↦ absurd (let m = before_apart l.outer b a lt in omega (arith, m, fa, fb, to_b, from_a))
        | inr le ↦ omega (arith, ge, le)
      ])
    ]

past : (words : List ℕ) (w i : ℕ) → InWord words w i → w < length words
past words w i h = elim (cases_lt w (length words)) [ inl l ↦ l | inr g ↦ absurd (no_bit (word words w) i (get_or_past words w 0 g) h) ]

module _ (l : Layout) (is : IsLayout l) (b : ℕ) (in_range : b < length l.outer) (old new from : List ℕ) (size_of : length from ≡ row_size (length (outer_of l b)))
    (first : ℕ) (begins : first ≡ first_of l b)
    (set : (w i : ℕ) → InWord new w i ↔ (InWord old w i ⊎ ((first ≤ w) × InWord from (w - first) i))) where
  bit_came : (a n : ℕ) → a < length l.outer → n < 64 * row_size (length (outer_of l a))
      → Bit new (64 * first_of l a + n) → Bit old (64 * first_of l a + n) ⊎ ((a ≡ b) × Bit from n)
  bit_came a n h size x =
      elim ((set (first_of l a + n / 64) (n % 64)).0 ((bit_behind new (first_of l a) n).0 x)) [
        | inl y ↦ inl ((bit_behind old (first_of l a) n).1 y)
        | inr y ↦ (
            let k : n / 64 < row_size (length (outer_of l a)) = omega (arith, size) in
            let p = past from (first_of l a + n / 64 - first) (n % 64) y.1 in
            let s = size_of in
            let above = y.0 in
            let e = one_row l is a b (first_of l a + n / 64) h in_range (omega arith) (omega (arith, k)) (omega (arith, above, begins)) (omega (arith, p, s, above, begins)) in
            let f : first ≡ first_of l a = begins ∙ ap (λ (m : ℕ). first_of l m) (sym e) in
            let d : first_of l a + n / 64 - first ≡ n / 64 = omega (arith, f) in
            inr (e, subst (λ (m : ℕ). InWord from m (n % 64)) d y.1))
      ]

  bit_stays : (a n : ℕ) → Bit old (64 * first_of l a + n) ⊎ ((a ≡ b) × Bit from n) → Bit new (64 * first_of l a + n)
  bit_stays a n (inl x) = (bit_behind new (first_of l a) n).1 ((set (first_of l a + n / 64) (n % 64)).1 (inl ((bit_behind old (first_of l a) n).0 x)))
  bit_stays a n (inr x) =
      let f : first ≡ first_of l a = begins ∙ ap (λ (m : ℕ). first_of l m) (sym x.0) in
      let d : n / 64 ≡ first_of l a + n / 64 - first = omega (arith, f) in
      (bit_behind new (first_of l a) n).1 ((set (first_of l a + n / 64) (n % 64)).1 (inr (omega (arith, f), subst (λ (m : ℕ). InWord from m (n % 64)) d x.1)))

  pub join_told : (f : Fact) → told (record { layout = l; words = new }) f
      ↔ (told (record { layout = l; words = old }) f ⊎ ((f.owner ≡ b) × RowTells (outer_of l b) from f.part))
  join_told f = (there, back)
    where
      there : told (record { layout = l; words = new }) f → told (record { layout = l; words = old }) f ⊎ ((f.owner ≡ b) × RowTells (outer_of l b) from f.part)
      there t = elim (bit_came f.owner t.1.0 t.0 (stands_below (outer_of l f.owner) f.part t.1.0 t.1.1.0) t.1.1.1) [
        | inl x ↦ inl (t.0, (t.1.0, (t.1.1.0, x)))
        | inr x ↦ inr (x.0, (t.1.0, (subst (λ (a : ℕ). Stands (outer_of l a) f.part t.1.0) x.0 t.1.1.0, x.1)))
      ]

      back : told (record { layout = l; words = old }) f ⊎ ((f.owner ≡ b) × RowTells (outer_of l b) from f.part) → told (record { layout = l; words = new }) f
      back (inl t) = (t.0, (t.1.0, (t.1.1.0, bit_stays f.owner t.1.0 (inl t.1.1.1))))
      back (inr t) = (
        subst (λ (a : ℕ). a < length l.outer) (sym t.0) in_range,
        (t.1.0, (subst (λ (a : ℕ). Stands (outer_of l a) f.part t.1.0) (sym t.0) t.1.1.0, bit_stays f.owner t.1.0 (inr (t.0, t.1.1.1)))),
      )

  pub join_tidy : IsTidy (record { layout = l; words = old }) → IsTidyRow (outer_of l b) from → IsTidy (record { layout = l; words = new })
  join_tidy tidy row a n h size x = elim (bit_came a n h size x) [
    | inl y ↦ tidy a n h size y
    | inr y ↦ (let s = row n y.1 in (s.0, subst (λ (c : ℕ). Stands (outer_of l c) s.0 n) (sym y.0) s.1))
  ]

  pub join_gains : IsTidyRow (outer_of l b) from → ((w : ℕ) → word from w < 2 ^ 64) → (w i : ℕ) × ((InWord old w i → ⊥) × InWord new w i)
      → GainsFact (record { layout = l; words = old }) (record { layout = l; words = new })
  join_gains row fits g =
      let w = g.0 in
      let i = g.1 in
      elim ((set w i).0 g.2.1) [
        | inl x ↦ absurd (g.2.0 x)
        | inr x ↦ (
            let k = w - first in
            let i_fits = bit_below (word from k) i (fits k) x.1 in
            let n = 64 * k + i in
            let q : n / 64 ≡ k = omega (arith, i_fits) in
            let r : n % 64 ≡ i = omega (arith, i_fits) in
            let bit : Bit from n = subst (λ (m : ℕ). InWord from m (n % 64)) (sym q) (subst (λ (m : ℕ). InWord from k m) (sym r) x.1) in
            let s = row n bit in
            let lw : first_of l b + n / 64 ≡ w = (let above = x.0 in omega (arith, q, begins, above)) in (
              record { owner = b; part = s.0 },
              λ t. g.2.0 (
                  let e = one_bit (outer_of l b) (is.increasing b) s.0 t.1.0 n t.1.1.0 s.1 in
                  let o = (bit_behind old (first_of l b) n).0 (subst (λ (m : ℕ). Bit old (64 * first_of l b + m)) e t.1.1.1) in
                  subst (λ (m : ℕ). InWord old m i) lw (subst (λ (m : ℕ). InWord old (first_of l b + n / 64) m) r o)),
              (in_range, (n, (s.1, bit_stays b n (inr (refl, bit))))),
            ))
      ]
