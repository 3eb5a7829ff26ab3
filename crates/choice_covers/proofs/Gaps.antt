-- A gap is a value that is left.
use Rattle.std.proofs.Common.{◌≡◌, ℕ, zero, suc, ◌⊎◌, inl, inr, true, false, List, [], ◌∷◌, ℤ, pos, negsuc, ◌+ℤ◌, ◌-ℤ◌, ◌≤ℤ◌, ◌<ℤ◌, refl, ap, ◌∙◌, arith}
use Rattle.std.specs.List.{list_any}
use Rattle.std.proofs.lemmas.Int.{ints, by_lt_z}
use Rattle.choice_covers.specs.Parts.{behind_part, has_gap, is_covered, is_left, is_left_behind}
use Rattle.choice_covers.proofs.Parts.{by_bool, clash, gap_at, or_elim}

-- a count above a number
beyond : (d : ℤ) → (m : ℕ) × (d <ℤ pos m)
beyond (pos k) = (suc k, omega (arith, ints))
beyond (negsuc k) = (0, omega (arith, ints))

module _ (ps : List (ℤ × ℤ)) (low high : ℤ) where
  abbrev Left : Type 0
  Left = (n : ℤ) × ((low ≤ℤ n) × ((n ≤ℤ high) × (is_covered ps n ≡ false)))

  within : (n : ℤ) → is_left ps low high n ≡ true → Left
  within n h = (n, (grind (arith, ints, h), (grind (arith, ints, h), grind (arith, h))))

  left_behind : (qs : List (ℤ × ℤ)) → list_any (is_left_behind ps low high) qs ≡ true → Left
  left_behind [] h = clash false h refl
  left_behind (q ∷ qs) h = or_elim (is_left_behind ps low high q) (list_any (is_left_behind ps low high) qs) h
      (λ k. within (behind_part q) k) (λ k. left_behind qs k)

  pub gap_is_left : has_gap ps low high ≡ true → Left
  gap_is_left h = or_elim (is_left ps low high low) (list_any (is_left_behind ps low high) ps) h (within low) (left_behind ps)

  -- the values below so many behind the low bound are covered, or there is a gap
  looked : (m : ℕ) → (has_gap ps low high ≡ true) ⊎ ((n : ℤ) → low ≤ℤ n → n <ℤ (low +ℤ pos m) → n ≤ℤ high → is_covered ps n ≡ true)
  looked zero = inr (λ n a b c. let x : ⊥ = omega (arith, ints, a, b) in elim x [ ])
  looked (suc m) = elim (looked m) [
    | inl g ↦ inl g
    | inr all ↦ by_bool (is_covered ps (low +ℤ pos m))
        (λ k. inr (λ n a b c. by_lt_z n (low +ℤ pos m) (λ l. all n a l c)
        (λ l. let e : n ≡ low +ℤ pos m = omega (arith, ints, b, l) in ap (is_covered ps) e ∙ k)))
        (λ k. by_lt_z high (low +ℤ pos m)
        (λ l. inr (λ n a b c. all n a (omega (arith, ints, l, c)) c))
        (λ l. inl (gap_at ps low high (low +ℤ pos m) (omega (arith, ints)) l k (λ n a b. all n a b (omega (arith, ints, l, b))))))
  ]

  far : (n : ℤ) → (m : ℕ) × (n <ℤ (low +ℤ pos m))
  far n = let b = beyond (n -ℤ low) in (b.0, omega (arith, ints, b.1))

  pub left_is_gap : Left → has_gap ps low high ≡ true
  left_is_gap l = let f = far l.0 in elim (looked f.0) [
    | inl g ↦ g
    | inr all ↦ clash (is_covered ps l.0) (all l.0 l.1.0 f.1 l.1.1.0) l.1.1.1
  ]
