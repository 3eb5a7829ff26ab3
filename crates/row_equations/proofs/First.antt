-- The first bit of a row of pairs, and which leaves have numbers.
use Rattle.std.proofs.Common.{ℕ, ◌+◌, ◌*◌, ◌<◌, ◌≤◌, List, Option, None, inl, inr, length, subst, arith}
use Rattle.std.specs.Prelude.{IsSomeAnd}
use Rattle.std.proofs.Math.Nat.{mul-le-mul_left}
use Rattle.std.proofs.lemmas.Bool.{cases_lt}
use Rattle.std.proofs.lemmas.List.{get_or_past}
use Rattle.row_equations.specs.Packing.{number_at}

pub row_below : (first i count : ℕ) → i < count → (first + i * count) + count ≤ first + count * count
row_below first i count h = let s : i + 1 ≤ count = omega arith in let m = mul-le-mul_left count s in omega (arith, m)

pub number_within : (numbers : List (Option ℕ)) (i : ℕ) (S : ℕ → Type 0) → IsSomeAnd (number_at numbers i) S → i < length numbers
number_within numbers i S h = elim (cases_lt i (length numbers)) [
  | inl l ↦ l
  | inr g ↦ absurd (subst (λ (o : Option ℕ). IsSomeAnd o S) (get_or_past numbers i None g) h)
]
