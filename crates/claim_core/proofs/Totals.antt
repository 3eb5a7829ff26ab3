-- Sums over numbers below a bound, and the set bits of a word that grows.
use Rattle.std.proofs.Common.{◌≡◌, ⊎_elim, ℕ, zero, suc, ◌+◌, ◌^◌, ◌<◌, ◌≤◌, Bool, true, false, refl, sym, subst, arith, le_refl, le_of_eq, zero-le}
use Rattle.std.specs.Prelude.{IsTrue}
use Rattle.std.specs.Int.{bit_at}
use Rattle.std.proofs.lemmas.Nat.Bits.{same_from_bits_below}
use Rattle.std.proofs.lemmas.Bool.{cases_eq, false≢true}
use Rattle.claim_core.specs.Bits.{Within}
use Rattle.claim_core.specs.Counts.{total, one, set_bits}
use Rattle.claim_core.proofs.Words.{bits_of}

pub total_le : (n : ℕ) (f g : ℕ → ℕ) → ((j : ℕ) → f j ≤ g j) → total n f ≤ total n g
total_le zero f g h = zero-le
total_le (suc n) f g h = let x = h n in let y = total_le n f g h in omega arith

-- one of the values is larger by d at least
pub total_rise : (n k d : ℕ) (f g : ℕ → ℕ) → k < n → ((j : ℕ) → f j ≤ g j) → f k + d ≤ g k → total n f + d ≤ total n g
total_rise zero k d f g lt h r = absurd (omega arith)
total_rise (suc n) k d f g lt h r = ⊎_elim
    (λ (e : k ≡ n). let x : f n + d ≤ g n = subst (λ m. f m + d ≤ g m) e r in let y = total_le n f g h in omega arith)
    (λ (ne : k ≡ n → ⊥). let x = h n in let y = total_rise n k d f g (omega arith) h r in omega arith) (cases_eq k n)

-- one of the values is larger by d at most, and no other is larger
pub total_bump : (n k d : ℕ) (f g : ℕ → ℕ) → ((j : ℕ) → (j ≡ k → ⊥) → g j ≤ f j) → g k ≤ f k + d → total n g ≤ total n f + d
total_bump zero k d f g h r = zero-le
total_bump (suc n) k d f g h r = ⊎_elim
    (λ (e : n ≡ k). let x : g n ≤ f n + d = subst (λ m. g m ≤ f m + d) (sym e) r in let y = below n in let z = y (λ j lt. h j (λ m. omega arith)) in omega arith)
    (λ (ne : n ≡ k → ⊥). let x = h n ne in let y = total_bump n k d f g h r in omega arith) (cases_eq n k)
  where
    below : (m : ℕ) → ((j : ℕ) → j < m → g j ≤ f j) → total m g ≤ total m f
    below zero l = zero-le
    below (suc m) l = let x = l m (omega arith) in let y = below m (λ j lt. l j (omega arith)) in omega arith

pub total_add : (n : ℕ) (f g h : ℕ → ℕ) → ((j : ℕ) → h j ≤ f j + g j) → total n h ≤ total n f + total n g
total_add zero f g h r = zero-le
total_add (suc n) f g h r = let x = r n in let y = total_add n f g h r in omega arith

-- sums that are equal, of values that are no larger, have equal values
total_same : (n : ℕ) (f g : ℕ → ℕ) → ((j : ℕ) → f j ≤ g j) → total n g ≤ total n f → (k : ℕ) → k < n → f k ≡ g k
total_same zero f g h r k lt = absurd (omega arith)
total_same (suc n) f g h r k lt = let x = h n in let y = total_le n f g h in ⊎_elim
    (λ (e : k ≡ n). subst (λ m. f m ≡ g m) (sym e) (omega arith))
    (λ (ne : k ≡ n → ⊥). total_same n f g h (omega arith) k (omega arith)) (cases_eq k n)

pub set_bits-le : (a b : ℕ) → Within a b → set_bits a ≤ set_bits b
unfolding set_bits
set_bits-le a b h = total_le 64 (λ k. bit_at a k) (λ k. bit_at b k) (bits_of a b h)

lt_of : (x y : ℕ) → x ≤ y → (x ≡ y → ⊥) → x + 1 ≤ y
lt_of x y l ne = omega arith

same_bits : (a b : ℕ) → a < 2 ^ 64 → b < 2 ^ 64 → Within a b → set_bits a ≡ set_bits b → a ≡ b
unfolding set_bits
same_bits a b la lb h e = same_from_bits_below 64 a b la lb (λ i lt. total_same 64 (λ k. bit_at a k) (λ k. bit_at b k) (bits_of a b h) (le_of_eq (sym e)) i lt)

pub set_bits-lt : (a b : ℕ) → a < 2 ^ 64 → b < 2 ^ 64 → Within a b → (a ≡ b → ⊥) → set_bits a + 1 ≤ set_bits b
set_bits-lt a b la lb h n = ⊎_elim (λ (e : set_bits a ≡ set_bits b). absurd (n (same_bits a b la lb h e))) (λ (ne : set_bits a ≡ set_bits b → ⊥). lt_of (set_bits a) (set_bits b) (set_bits-le a b h) ne) (cases_eq (set_bits a) (set_bits b))

pub one-le : (b : Bool) → one b ≤ 1
one-le true = le_refl 1
one-le false = zero-le

pub one_mono : (a b : Bool) → (IsTrue a → IsTrue b) → one a ≤ one b
one_mono false b h = zero-le
one_mono true true h = le_refl 1
one_mono true false h = absurd (false≢true (h refl))
