-- Which words are in which row.
use Rattle.std.proofs.Common.{◌≡◌, inl, inr, ℕ, ◌↔◌, zero, suc, ◌+◌, ◌<◌, ◌≤◌, ◌&&◌, cond, Some, length, sym, ap, ◌∙◌, subst, arith}
use Rattle.std.specs.Prelude.{IsTrue, nat_lt}
use Rattle.std.proofs.lemmas.Bool.{false≢true, cases_Bool, and_parts, lt-ltb, ltb-true}
use Rattle.std.proofs.lemmas.Bool.Decides.{same_from_decides}
use Rattle.std.proofs.lemmas.Option.{none-some}
use Rattle.core_form.specs.declared.program.Program.{Program}
use Rattle.summary_rows.specs.declared.layout.Layout.{Layout}
use Rattle.summary_rows.specs.Layout.{row_size, outer_of, first_of, IsLayout}
use Rattle.summary_rows.proofs.Joined.{row_within, one_row}
use Rattle.claim_core.specs.System.{in_row, in_callee, owned_by}
use Rattle.claim_core.proofs.Guards.{some_one}
use Rattle.claim_core.proofs.Systems.{owned, row_owner, owner_row}
use Rattle.claim_rows.specs.Placed.{is_in_row, owner_below}
use Rattle.claim_rows.proofs.Placed.{IsInRow}
use Rattle.claim_state.specs.Solving.{calls, solving}

pub in_bounds : (l : Layout) (b w : ℕ) → IsTrue (is_in_row l b w) → IsInRow l b w
in_bounds l b w h =
    let p = and_parts (nat_lt (first_of l b) (suc w)) (nat_lt w (first_of l b + row_size (length (outer_of l b)))) h in
    let x = ltb-true (first_of l b) (suc w) p.0 in
    (omega (arith, x), ltb-true w (first_of l b + row_size (length (outer_of l b))) p.1)

pub by_bounds : (l : Layout) (b w : ℕ) → IsInRow l b w → IsTrue (is_in_row l b w)
by_bounds l b w h =
    let x = lt-ltb (first_of l b) (suc w) (let p = h.0 in omega (arith, p)) in
    let y = lt-ltb w (first_of l b + row_size (length (outer_of l b))) h.1 in
    ap (λ z. z && nat_lt w (first_of l b + row_size (length (outer_of l b)))) x ∙ y

-- the body that is found has the word in its row
found : (l : Layout) (n w b : ℕ) → owner_below l n w ≡ Some b → (b < n) × IsTrue (is_in_row l b w)
found l zero w b e = absurd (none-some b e)
found l (suc m) w b e = elim (cases_Bool (is_in_row l m w)) [
  | inl h ↦ (
      let s : m ≡ b = some_one m b (subst (λ x. cond x (Some m) (owner_below l m w) ≡ Some b) h e) in
      (omega (arith, s), subst (λ k. IsTrue (is_in_row l k w)) s h))
  | inr h ↦ (let r = found l m w b (subst (λ x. cond x (Some m) (owner_below l m w) ≡ Some b) h e) in let p = r.0 in (omega (arith, p), r.1))
]

module _ (p : Program) (l : Layout) (is : IsLayout l) where
  -- and no other body has
  finds : (n w b : ℕ) → n ≤ length l.outer → b < n → IsTrue (is_in_row l b w) → owner_below l n w ≡ Some b
  finds zero w b h lt r = absurd (omega (arith, lt))
  finds (suc m) w b h lt r = elim (cases_Bool (is_in_row l m w)) [
    | inl e ↦ (
        let q = in_bounds l m w e in
        let t = in_bounds l b w r in
        let s : m ≡ b = one_row l is m b w (omega (arith, h)) (omega (arith, lt, h)) q.0 q.1 t.0 t.1 in
        ap (λ x. cond x (Some m) (owner_below l m w)) e ∙ ap Some s)
    | inr e ↦ (
        let ne : b ≡ m → ⊥ = λ s. false≢true (sym e ∙ subst (λ k. IsTrue (is_in_row l k w)) s r) in
        ap (λ x. cond x (Some m) (owner_below l m w)) e ∙ finds m w b (omega (arith, h)) (omega (arith, lt, ne)) r)
  ]

  pub row_is : (b w : ℕ) → b < length l.outer → in_row (solving p l) b w ≡ is_in_row l b w
  row_is b w lt = same_from_decides {P = IsTrue (is_in_row l b w)} (in_row (solving p l) b w) (is_in_row l b w)
      ((λ h. (found l (length l.outer) w b (row_owner (solving p l) b w h)).1), (λ h. owner_row (solving p l) b w (finds (length l.outer) w b (omega arith) lt h)))
      ((λ h. h), (λ h. h))

  pub callee_is : (b w : ℕ) → IsTrue (in_callee (solving p l) b w)
      ↔ ((c : ℕ) × (IsTrue (calls p b c) × ((c < length l.outer) × IsTrue (is_in_row l c w))))
  callee_is b w = (
    λ h. (let o = owned (λ c. calls p b c) (owner_below l (length l.outer) w) h in
        let f = found l (length l.outer) w o.0 o.1 in
        (o.0, (o.2, (f.0, f.1)))),
    λ h. ap (owned_by (λ c. calls p b c)) (finds (length l.outer) w h.0 (omega arith) h.1.1.0 h.1.1.1) ∙ h.1.0,
  )

  pub row_below : (b w : ℕ) → b < length l.outer → IsTrue (is_in_row l b w) → w < l.words
  row_below b w lt h = let x = (in_bounds l b w h).1 in let y = row_within l is b lt in omega (arith, x, y)
