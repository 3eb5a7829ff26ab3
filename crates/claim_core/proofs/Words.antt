-- Words of bits, functions with another value at one number, and tests of all numbers below a bound.
use Rattle.std.proofs.Common.{◌≡◌, ◌⊎◌, inl, inr, ⊎_elim, ℕ, zero, suc, ◌<◌, ◌≤◌, max, Bool, cond, eq-eqb, ne_eqb, refl, sym, ap, ◌∙◌, subst, arith, le_refl, le_trans}
use Rattle.std.specs.Prelude.{IsTrue, bit_or}
use Rattle.std.specs.Int.{bit_at}
use Rattle.std.proofs.lemmas.Nat.Bits.{bit_at_or, bit_at-lt, bit_at-zero, same_from_bits}
use Rattle.std.proofs.lemmas.Bool.{cases_eq, and_parts}
use Rattle.claim_core.specs.Bits.{Within, HasBit, Below, put}
use Rattle.claim_core.specs.Guards.{all_below}

pub bits_of : (a b : ℕ) → Within a b → (k : ℕ) → bit_at a k ≤ bit_at b k
bits_of a b h k = let e : max (bit_at a k) (bit_at b k) ≡ bit_at b k = sym (bit_at_or a b k) ∙ ap (λ n. bit_at n k) h in omega arith

pub from_bits : (a b : ℕ) → ((k : ℕ) → bit_at a k ≤ bit_at b k) → Within a b
from_bits a b h = same_from_bits (bit_or a b) b (λ k. let e = bit_at_or a b k in let l = h k in omega arith)

pub within_refl : (a : ℕ) → Within a a
within_refl a = from_bits a a (λ k. le_refl _)

pub within_trans : (a b c : ℕ) → Within a b → Within b c → Within a c
within_trans a b c h k = from_bits a c (λ i. le_trans (bits_of a b h i) (bits_of b c k i))

pub within_left : (a b : ℕ) → Within a (bit_or a b)
within_left a b = from_bits a (bit_or a b) (λ k. let e = bit_at_or a b k in omega arith)

pub within_right : (a b : ℕ) → Within b (bit_or a b)
within_right a b = from_bits b (bit_or a b) (λ k. let e = bit_at_or a b k in omega arith)

pub both_within : (a b c : ℕ) → Within a c → Within b c → Within (bit_or a b) c
both_within a b c h k = from_bits (bit_or a b) c (λ i. let e = bit_at_or a b i in let x = bits_of a c h i in let y = bits_of b c k i in omega arith)

zero_or_one : (a k : ℕ) → (HasBit a k → ⊥) → bit_at a k ≡ 0
zero_or_one a k n = let l = bit_at-lt a k in ⊎_elim (λ (e : bit_at a k ≡ 1). absurd (n e)) (λ (ne : bit_at a k ≡ 1 → ⊥). small (bit_at a k) l ne) (cases_eq (bit_at a k) 1)
  where
    small : (x : ℕ) → x < 2 → (x ≡ 1 → ⊥) → x ≡ 0
    small x l ne = omega arith

pub within_has : (a b k : ℕ) → Within a b → HasBit a k → HasBit b k
within_has a b k h e = let x = bits_of a b h k in let l = bit_at-lt b k in omega arith

pub or_has : (a b k : ℕ) → HasBit (bit_or a b) k → HasBit a k ⊎ HasBit b k
or_has a b k e = ⊎_elim (λ (y : bit_at a k ≡ 1). inl y) (λ (n : bit_at a k ≡ 1 → ⊥). inr (other (bit_at a k) (bit_at b k) (zero_or_one a k n) (sym (bit_at_or a b k) ∙ e))) (cases_eq (bit_at a k) 1)
  where
    other : (x y : ℕ) → x ≡ 0 → max x y ≡ 1 → y ≡ 1
    other x y z m = omega arith

module _ (S : ℕ → Type 0) where
  pub below_zero : Below 0 S
  below_zero k e = absurd (none k e)
    where
      none : (k : ℕ) → HasBit 0 k → ⊥
      none k e = let z = bit_at-zero k in absurd (omega arith)

  pub below_or : (a b : ℕ) → Below a S → Below b S → Below (bit_or a b) S
  below_or a b h g k e = ⊎_elim (h k) (g k) (or_has a b k e)

module _ {A : Type 0} where
  pub at_put : (f : ℕ → A) (k : ℕ) (x : A) (j : ℕ) (P : A → Type 0) → (j ≡ k → P x) → ((j ≡ k → ⊥) → P (f j)) → P (put f k x j)
  at_put f k x j P here there = ⊎_elim (λ (e : j ≡ k). subst (λ b. P (cond b x (f j))) (sym (eq-eqb j k e)) (here e)) (λ (n : j ≡ k → ⊥). subst (λ b. P (cond b x (f j))) (sym (ne_eqb j k n)) (there n)) (cases_eq j k)

  pub put_here : (f : ℕ → A) (k : ℕ) (x : A) → put f k x k ≡ x
  put_here f k x = at_put f k x k (λ y. y ≡ x) (λ e. refl) (λ n. absurd (n refl))

  pub put_else : (f : ℕ → A) (k : ℕ) (x : A) (j : ℕ) → (j ≡ k → ⊥) → put f k x j ≡ f j
  put_else f k x j n = at_put f k x j (λ y. y ≡ f j) (λ e. absurd (n e)) (λ m. refl)

  pub put_same : (f : ℕ → A) (k : ℕ) (x : A) → f k ≡ x → put f k x ≡ f
  put_same f k x e = λ i j. at_put f k x j (λ y. y ≡ f j) (λ p. sym e ∙ ap f (sym p)) (λ m. refl) i

pub all_below-at : (n : ℕ) (test : ℕ → Bool) → IsTrue (all_below n test) → (k : ℕ) → k < n → IsTrue (test k)
all_below-at zero test h k lt = absurd (omega arith)
all_below-at (suc n) test h k lt = let p = and_parts (test n) (all_below n test) h in
    ⊎_elim (λ (e : k ≡ n). subst (λ m. IsTrue (test m)) (sym e) p.0) (λ (ne : k ≡ n → ⊥). all_below-at n test p.1 k (omega arith)) (cases_eq k n)
