-- Increasing lists of leaves: one leaf more at the end, and that there is one list of the same leaves.
use Rattle.std.proofs.Common.{◌≡◌, ℕ, zero, suc, ◌+◌, ◌<◌, ◌≤◌, ◌↔◌, ◌⊎◌, inl, inr, Bool, List, [], ◌∷◌, ◌++◌, Option, Some, None, length, refl, sym, ap, subst, ◌∙◌, arith}
use Rattle.std.proofs.lemmas.Bool.{cases_lt}
use Rattle.spark_base.specs.declared.numbers.LeafNo.{LeafNo}
use Rattle.flow_bits.specs.Sets.{Has}
use Rattle.summary_rows.specs.Layout.{IsAt, IsIncreasing}
use Rattle.contract_facts.specs.Listed.{AreListed}

nowhere_at : (v i : ℕ) → IsAt [] v i → ⊥
nowhere_at v i e = let n : Option LeafNo = None in let z : n ≡ Some (record { 0 = v }) = e in absurd (cc)

-- it stands before, or is the last
at_more : (xs : List LeafNo) (x v i : ℕ) → IsAt (xs ++ record { 0 = x } ∷ []) v i → IsAt xs v i ⊎ ((v ≡ x) × (i ≡ length xs))
at_more [] x v zero e =
    let y : LeafNo = record { 0 = x } in
    let z : Some y ≡ Some (record { 0 = v }) = e in
    let s : y ≡ record { 0 = v } = cc in
    inr (sym (ap (λ (l : LeafNo). l.0) s), refl)
at_more [] x v (suc i) e = absurd (nowhere_at v i e)
at_more (y ∷ ys) x v zero e = inl e
at_more (y ∷ ys) x v (suc i) e = elim (at_more ys x v i e) [ inl h ↦ inl h | inr h ↦ inr (h.0, (let m = h.1 in omega (arith, m))) ]

at_before : (xs : List LeafNo) (x v i : ℕ) → IsAt xs v i → IsAt (xs ++ record { 0 = x } ∷ []) v i
at_before [] x v i e = absurd (nowhere_at v i e)
at_before (y ∷ ys) x v zero e = e
at_before (y ∷ ys) x v (suc i) e = at_before ys x v i e

at_last : (xs : List LeafNo) (x : ℕ) → IsAt (xs ++ record { 0 = x } ∷ []) x (length xs)
at_last [] x = refl
at_last (y ∷ ys) x = at_last ys x

at_within : (xs : List LeafNo) (v i : ℕ) → IsAt xs v i → i < length xs
at_within [] v i e = absurd (nowhere_at v i e)
at_within (y ∷ ys) v zero e = omega arith
at_within (y ∷ ys) v (suc i) e = let h = at_within ys v i e in omega (arith, h)

module _ (set : List Bool) (x : ℕ) (xs : List LeafNo) (h : AreListed set x xs) where
  below : (v i : ℕ) → IsAt xs v i → v < x
  below v i e = ((h.all v).0 (i, e)).0

  pub listed_more : Has set x → AreListed set (x + 1) (xs ++ record { 0 = x } ∷ [])
  listed_more has = record { increasing = increasing; all = λ v. (there v, back v) }
    where
      increasing : IsIncreasing (xs ++ record { 0 = x } ∷ [])
      increasing v w i j a b l = elim (at_more xs x w j b) [
        | inr q ↦ (elim (at_more xs x v i a) [
          | inl p ↦ (let m = below v i p in let e = q.0 in omega (arith, m, e))
          | inr p ↦ (let m = p.1 in let n = q.1 in absurd (omega (arith, m, n, l)))
        ])
        | inl q ↦ (elim (at_more xs x v i a) [
          | inl p ↦ h.increasing v w i j p q l
          | inr p ↦ (let m = at_within xs w j q in let n = p.1 in absurd (omega (arith, m, n, l)))
        ])
      ]

      there : (v : ℕ) → ((i : ℕ) × IsAt (xs ++ record { 0 = x } ∷ []) v i) → (v < x + 1) × Has set v
      there v (i, e) = elim (at_more xs x v i e) [
        | inl p ↦ (let y = (h.all v).0 (i, p) in let l = y.0 in (omega (arith, l), y.1))
        | inr p ↦ (let m = p.0 in (omega (arith, m), subst (λ u. Has set u) (sym p.0) has))
      ]

      back : (v : ℕ) → (v < x + 1) × Has set v → (i : ℕ) × IsAt (xs ++ record { 0 = x } ∷ []) v i
      back v (l, y) = elim (cases_lt v x) [
        | inl m ↦ (let p = (h.all v).1 (m, y) in (p.0, at_before xs x v p.0 p.1))
        | inr g ↦ (let e : x ≡ v = omega (arith, l, g) in (length xs, subst (λ u. IsAt (xs ++ record { 0 = x } ∷ []) u (length xs)) e (at_last xs x)))
      ]

  pub listed_same : (Has set x → ⊥) → AreListed set (x + 1) xs
  listed_same hasnt = record { increasing = h.increasing; all = λ v. (there v, back v) }
    where
      there : (v : ℕ) → ((i : ℕ) × IsAt xs v i) → (v < x + 1) × Has set v
      there v p = let y = (h.all v).0 p in let l = y.0 in (omega (arith, l), y.1)

      back : (v : ℕ) → (v < x + 1) × Has set v → (i : ℕ) × IsAt xs v i
      back v (l, y) = elim (cases_lt v x) [
        | inl m ↦ (h.all v).1 (m, y)
        | inr g ↦ (let e : v ≡ x = omega (arith, l, g) in absurd (hasnt (subst (λ u. Has set u) e y)))
      ]

pub listed_none : (set : List Bool) → AreListed set 0 []
listed_none set = record {
  increasing = λ v w i j a b l. absurd (nowhere_at v i a);
  all = λ v. (λ p. absurd (nowhere_at v p.0 p.1), λ p. (let l = p.0 in absurd (omega (arith, l))));
}

-- Two lists

head_is : (y : LeafNo) (v : ℕ) → Some y ≡ Some (record { 0 = v }) → y.0 ≡ v
head_is y v e = let s : y ≡ record { 0 = v } = cc in ap (λ (l : LeafNo). l.0) s

rest_increases : (x : LeafNo) (xs : List LeafNo) → IsIncreasing (x ∷ xs) → IsIncreasing xs
rest_increases x xs up v w i j a b l = up v w (suc i) (suc j) a b (omega (arith, l))

-- a leaf behind the first is greater
greater : (x : LeafNo) (xs : List LeafNo) → IsIncreasing (x ∷ xs) → (v i : ℕ) → IsAt xs v i → x.0 < v
greater x xs up v i a = up x.0 v 0 (suc i) refl a (omega arith)

least : (x : LeafNo) (xs : List LeafNo) → IsIncreasing (x ∷ xs) → (v i : ℕ) → IsAt (x ∷ xs) v i → x.0 ≤ v
least x xs up v zero a = let e = head_is x v a in omega (arith, e)
least x xs up v (suc i) a = let l = greater x xs up v i a in omega (arith, l)

behind_first : (y : LeafNo) (ys : List LeafNo) (x v : ℕ) → x ≡ y.0 → x < v → (i : ℕ) → IsAt (y ∷ ys) v i → (j : ℕ) × IsAt ys v j
behind_first y ys x v e l zero a = let m = head_is y v a in absurd (omega (arith, e, l, m))
behind_first y ys x v e l (suc i) a = (i, a)

pub one_list : (xs ys : List LeafNo) → IsIncreasing xs → IsIncreasing ys → ((v : ℕ) → ((i : ℕ) × IsAt xs v i) ↔ ((i : ℕ) × IsAt ys v i)) → xs ≡ ys
one_list [] [] up more same = refl
one_list [] (y ∷ ys) up more same = let p = (same y.0).1 (0, refl) in absurd (nowhere_at y.0 p.0 p.1)
one_list (x ∷ xs) [] up more same = let p = (same x.0).0 (0, refl) in absurd (nowhere_at x.0 p.0 p.1)
one_list (x ∷ xs) (y ∷ ys) up more same =
    let there = (same x.0).0 (0, refl) in
    let here = (same y.0).1 (0, refl) in
    let low = least y ys more x.0 there.0 there.1 in
    let high = least x xs up y.0 here.0 here.1 in
    let e : x.0 ≡ y.0 = omega (arith, low, high) in
    let leaf : ℕ → LeafNo = λ n. record { 0 = n } in
    let first : x ≡ y = ap leaf e in
    let rest = one_list xs ys (rest_increases x xs up) (rest_increases y ys more) (λ v. (
      λ p. (let q = (same v).0 (suc p.0, p.1) in behind_first y ys x.0 v e (greater x xs up v p.0 p.1) q.0 q.1),
      λ p. (let q = (same v).1 (suc p.0, p.1) in behind_first x xs y.0 v (sym e) (greater y ys more v p.0 p.1) q.0 q.1),
    )) in
    ap (λ z. z ∷ xs) first ∙ ap (λ zs. y ∷ zs) rest
