-- Bits of words that stand one behind another.
use Rattle.std.specs.Prelude.{ℕ, ◌/◌, ◌%◌, List}
use Rattle.flow_bits.specs.Words.{IsSet, word}

-- a bit of the word at a place
abbrev pub InWord : List ℕ → ℕ → ℕ → Type 0
InWord words w i = IsSet (word words w) i

-- a bit, counted from the first word on
abbrev pub Bit : List ℕ → ℕ → Type 0
Bit words n = InWord words (n / 64) (n % 64)
