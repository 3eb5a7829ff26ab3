-- Words of bits, and functions with another value at one number.
use Rattle.std.specs.Int.{bit_at}
use Rattle.std.specs.Prelude.{◌≡◌, ℕ, ◌==◌, cond, Option, None, Some, bit_or}

-- the second has each bit of the first
abbrev pub Within : ℕ → ℕ → Type 0
Within a b = bit_or a b ≡ b

abbrev pub HasBit : ℕ → ℕ → Type 0
HasBit a k = bit_at a k ≡ 1

-- each bit of the word is in the set
abbrev pub Below : ℕ → (ℕ → Type 0) → Type 0
Below a S = (k : ℕ) → HasBit a k → S k

-- a bit of the table: of which word, and which of its bits
pub record Bit : Type 0 where
  pub word : ℕ
  pub place : ℕ

-- it is set in these words
abbrev pub IsSetIn : (ℕ → ℕ) → Bit → Type 0
IsSetIn words x = HasBit (words x.word) x.place

-- a function with another value at one number
abbrev pub put : {A : Type 0} → (ℕ → A) → ℕ → A → ℕ → A
put f k x j = cond (j == k) x (f j)

-- a function with another value at a number, if any
abbrev pub put_at : {A : Type 0} → (ℕ → A) → Option ℕ → A → ℕ → A
put_at f None x = f
put_at f (Some k) x = put f k x
