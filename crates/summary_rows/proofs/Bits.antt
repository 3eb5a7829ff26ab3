-- Bits of words, and of those that come in.
use Rattle.std.proofs.Common.{◌≡◌, ◌≢◌, ◌⊎◌, ◌↔◌, inl, inr, ℕ, ◌+◌, ◌*◌, ◌/◌, ◌%◌, ◌^◌, ◌<◌, ◌≤◌, List, length, sym, subst, arith, bit_and, w64}
use Rattle.std.specs.Prelude.{replicate}
use Rattle.std.specs.Int.{bit_not}
use Rattle.std.proofs.lemmas.Bool.{cases_lt}
use Rattle.std.proofs.lemmas.List.{get_or_past}
use Rattle.std.proofs.lemmas.Nat.{and_le_l}
use Rattle.std.proofs.lemmas.Simd.{length-replicate, get_or-replicate}
use Rattle.flow_bits.specs.Words.{IsSet, word}
use Rattle.flow_bits.proofs.Bits.{or_bits, minus_bits, some_bit, no_bit, or_same}
use Rattle.summary_rows.specs.Bits.{Bit, InWord}

zero_word : (count w : ℕ) → word (replicate count 0) w ≡ 0
zero_word count w = elim (cases_lt w count) [
  | inl l ↦ get_or-replicate count w 0 0 l
  | inr g ↦ (let e = length-replicate {A = ℕ} count 0 in let p : length (replicate count 0) ≤ w = omega (arith, e, g) in get_or_past (replicate count 0) w 0 p)
]

pub no_bit_of_zeros : (count n : ℕ) → Bit (replicate count 0) n → ⊥
no_bit_of_zeros count n h = no_bit (word (replicate count 0) (n / 64)) (n % 64) (zero_word count (n / 64)) h

-- where no bit comes in, the word has those of both already
pub joined_none : (a b : ℕ) → a < 2 ^ 64 → b < 2 ^ 64 → bit_and b (bit_not w64 a) ≡ 0 → (i : ℕ) → IsSet a i ↔ (IsSet a i ⊎ IsSet b i)
joined_none a b la lb e i = subst (λ (x : ℕ). IsSet x i ↔ (IsSet a i ⊎ IsSet b i)) (or_same a b la lb e) (or_bits a b i)

-- a bit that comes in
pub joined_some : (a b : ℕ) → a < 2 ^ 64 → b < 2 ^ 64 → bit_and b (bit_not w64 a) ≢ 0 → (i : ℕ) × ((IsSet a i → ⊥) × IsSet b i)
joined_some a b la lb n =
    let more = bit_and b (bit_not w64 a) in
    let below : more ≤ b = and_le_l b (bit_not w64 a) in
    let fits : more < 2 ^ 64 = omega (arith, below, lb) in
    let s = some_bit more fits n in
    let m = (minus_bits b a s.0 lb la).0 s.1.1 in
    (s.0, (m.1, m.0))

-- a bit that stands so far behind the first word of a row
pub bit_behind : (words : List ℕ) (first n : ℕ) → Bit words (64 * first + n) ↔ InWord words (first + n / 64) (n % 64)
bit_behind words first n =
    let w : (64 * first + n) / 64 ≡ first + n / 64 = omega arith in
    let i : (64 * first + n) % 64 ≡ n % 64 = omega arith in (
      λ h. subst (λ (k : ℕ). InWord words (first + n / 64) k) i (subst (λ (k : ℕ). InWord words k ((64 * first + n) % 64)) w h),
      λ h. subst (λ (k : ℕ). InWord words k ((64 * first + n) % 64)) (sym w) (subst (λ (k : ℕ). InWord words (first + n / 64) k) (sym i) h),
    )
