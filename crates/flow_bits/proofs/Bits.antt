-- Bits of two words.
use Rattle.std.proofs.Common.{◌≡◌, ◌≢◌, ℕ, ◌*◌, ◌%◌, ◌^◌, ◌<◌, ◌⊎◌, ◌↔◌, inl, inr, sym, subst, ap, ◌∙◌, arith, bit_and, bit_or, w64}
use Rattle.std.specs.Int.{bit_at, bit_not, trailing_zeros}
use Rattle.std.proofs.lemmas.Bool.{cases_eq, cases_lt}
use Rattle.std.proofs.lemmas.Nat.Bits.{bit_at_or, bit_at_and, bit_at_not, bit_at-lt, bit_at_above, bit_at-zero, bit_at-trailing_zeros, bit_at_set_same, bit_at_set_other, bit_at_clear_same, bit_at_clear_other, same_from_bits}
use Rattle.flow_bits.specs.Words.{IsSet}

pub or_bits : (a b i : ℕ) → IsSet (bit_or a b) i ↔ (IsSet a i ⊎ IsSet b i)
or_bits a b i =
    let e = bit_at_or a b i in
    let la = bit_at-lt a i in
    let lb = bit_at-lt b i in (
      λ x. elim (cases_eq (bit_at a i) 1) [ inl h ↦ inl h | inr n ↦ inr (omega (arith, e, la, lb, n, x)) ],
      λ s. elim s [ inl h ↦ omega (arith, e, la, lb, h) | inr h ↦ omega (arith, e, la, lb, h) ],
    )

pub and_bits : (a b i : ℕ) → IsSet (bit_and a b) i ↔ (IsSet a i × IsSet b i)
and_bits a b i =
    let e = bit_at_and a b i in
    let la = bit_at-lt a i in
    let lb = bit_at-lt b i in (
      λ x. (omega (arith, e, la, lb, x), omega (arith, e, la, lb, x)),
      λ s. omega (arith, e, la, lb, s.0, s.1),
    )

-- the bits of a without those of b
pub minus_bits : (a b i : ℕ) → a < 2 ^ 64 → b < 2 ^ 64 → IsSet (bit_and a (bit_not w64 b)) i ↔ (IsSet a i × (IsSet b i → ⊥))
minus_bits a b i fa fb = elim (cases_lt i 64) [
  | inl l ↦ (
      let e = bit_at_and a (bit_not w64 b) i in
      let d = bit_at_not w64 b i fb l in
      let la = bit_at-lt a i in
      let lb = bit_at-lt b i in (
        λ x. (omega (arith, e, d, la, lb, x), λ y. omega (arith, e, d, la, lb, x, y)),
        λ s. elim (cases_eq (bit_at b i) 1) [ inl h ↦ absurd (s.1 h) | inr n ↦ omega (arith, e, d, la, lb, s.0, n) ],
      ))
  | inr g ↦ (
      let e = bit_at_and a (bit_not w64 b) i in
      let z = bit_at_above a 64 i fa g in
      let la = bit_at-lt a i in
      (λ x. absurd (omega (arith, e, z, x)), λ s. absurd (omega (arith, z, s.0))))
]

-- a word that is not 0 has a bit
pub some_bit : (a : ℕ) → a < 2 ^ 64 → a ≢ 0 → (i : ℕ) × ((i < 64) × IsSet a i)
some_bit a l n =
    let p : 0 < a = omega (arith, n) in
    let z = bit_at-trailing_zeros w64 a p l in
    (trailing_zeros w64 a, (z.0, z.1))

pub no_bit : (a i : ℕ) → a ≡ 0 → IsSet a i → ⊥
no_bit a i e h = let z = subst (λ (k : ℕ). bit_at k i ≡ 0) (sym e) (bit_at-zero i) in omega (arith, z, h)

pub bit_below : (a i : ℕ) → a < 2 ^ 64 → IsSet a i → i < 64
bit_below a i l h = elim (cases_lt i 64) [ inl m ↦ m | inr g ↦ (let z = bit_at_above a 64 i l g in absurd (omega (arith, z, h))) ]

-- where no bit comes in
pub or_same : (a b : ℕ) → a < 2 ^ 64 → b < 2 ^ 64 → bit_and b (bit_not w64 a) ≡ 0 → bit_or a b ≡ a
or_same a b la lb e = same_from_bits (bit_or a b) a bit
  where
    came : (i : ℕ) → IsSet b i → IsSet a i
    came i h = elim (cases_eq (bit_at a i) 1) [ inl y ↦ y | inr n ↦ absurd (no_bit (bit_and b (bit_not w64 a)) i e ((minus_bits b a i lb la).1 (h, n))) ]

    back : (i : ℕ) → IsSet (bit_or a b) i → IsSet a i
    back i h = elim ((or_bits a b i).0 h) [ inl y ↦ y | inr y ↦ came i y ]

    bit : (i : ℕ) → bit_at (bit_or a b) i ≡ bit_at a i
    bit i =
        let p = bit_at-lt (bit_or a b) i in
        let q = bit_at-lt a i in
        elim (cases_eq (bit_at (bit_or a b) i) 1) [
          | inl y ↦ y ∙ sym (back i y)
          | inr n ↦ (elim (cases_eq (bit_at a i) 1) [ inl y ↦ absurd (n ((or_bits a b i).1 (inl y))) | inr m ↦ omega (arith, p, q, n, m) ])
        ]

pub or_not_zero : (a b : ℕ) → bit_or a b ≢ 0 → (a ≢ 0) ⊎ (b ≢ 0)
or_not_zero a b n = elim (cases_eq a 0) [
  | inl e ↦ inr (λ z. n (same_from_bits (bit_or a b) 0 (λ i. none e z i)))
  | inr m ↦ inl m
]
  where
    none : a ≡ 0 → b ≡ 0 → (i : ℕ) → bit_at (bit_or a b) i ≡ bit_at 0 i
    none e z i = bit_at_or a b i ∙ omega (arith, ap (λ (k : ℕ). bit_at k i) e, ap (λ (k : ℕ). bit_at k i) z)

pub set_one : (a k : ℕ) → k < 64 → (i : ℕ) → IsSet (bit_or a (1 * 2 ^ k % 2 ^ 64)) i ↔ (IsSet a i ⊎ (i ≡ k))
set_one a k l i = elim (cases_eq i k) [
  | inl e ↦ ((λ x. inr e), (λ s. subst (λ (j : ℕ). IsSet (bit_or a (1 * 2 ^ k % 2 ^ 64)) j) (sym e) (bit_at_set_same w64 a k l)))
  | inr n ↦ (let e = bit_at_set_other w64 a k l i n in
      ((λ x. inl (sym e ∙ x)), (λ s. elim s [ inl h ↦ e ∙ h | inr h ↦ absurd (n h) ])))
]

pub clear_one : (a k : ℕ) → k < 64 → a < 2 ^ 64 → (i : ℕ) → IsSet (bit_and a (bit_not w64 (1 * 2 ^ k % 2 ^ 64))) i ↔ (IsSet a i × (i ≢ k))
clear_one a k l f i = (there, back)
  where
    there : IsSet (bit_and a (bit_not w64 (1 * 2 ^ k % 2 ^ 64))) i → IsSet a i × (i ≢ k)
    there h = (
      ((and_bits a (bit_not w64 (1 * 2 ^ k % 2 ^ 64)) i).0 h).0,
      λ e. (let z = bit_at_clear_same w64 a k l in let s = subst (λ (j : ℕ). IsSet (bit_and a (bit_not w64 (1 * 2 ^ k % 2 ^ 64))) j) e h in omega (arith, z, s)),
    )

    back : IsSet a i × (i ≢ k) → IsSet (bit_and a (bit_not w64 (1 * 2 ^ k % 2 ^ 64))) i
    back s = bit_at_clear_other w64 a k l i (bit_below a i f s.0) s.1 ∙ s.0
