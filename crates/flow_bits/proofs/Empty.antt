-- Rows without a flag.
use Rattle.std.proofs.Common.{◌≡◌, ℕ, ◌%◌, ◌≤◌, arith, length, inl, inr}
use Rattle.std.specs.Prelude.{replicate}
use Rattle.std.proofs.lemmas.Bool.{cases_lt}
use Rattle.std.proofs.lemmas.List.{get_or_past}
use Rattle.std.proofs.lemmas.Simd.{length-replicate, get_or-replicate}
use Rattle.flow_bits.specs.Sets.{Has}
use Rattle.flow_bits.specs.Words.{word, place_of, flags, IsClean}
use Rattle.flow_bits.proofs.Bits.{no_bit}
use Rattle.flow_bits.proofs.Changed.{has_is}

all_zero : (n w : ℕ) → word (replicate n 0) w ≡ 0
all_zero n w = elim (cases_lt w n) [
  | inl l ↦ get_or-replicate n w 0 0 l
  | inr g ↦ (let e = length-replicate {A = ℕ} n 0 in let p : length (replicate n 0) ≤ w = omega (arith, e, g) in get_or_past (replicate n 0) w 0 p)
]

pub empty_clean : (size n : ℕ) → IsClean size (replicate n 0)
empty_clean size n = record { clean = λ w i s. absurd (no_bit (word (replicate n 0) w) i (all_zero n w) s) }

pub empty_none : (size n a y : ℕ) → Has (flags size (replicate n 0) a) y → ⊥
empty_none size n a y h = no_bit (word (replicate n 0) (place_of size a y)) (y % 64) (all_zero n (place_of size a y)) ((has_is size (replicate n 0) a y).0 h).1
