-- What is in a set, or related to something, is below the size.
use Rattle.std.proofs.Common.{◌≡◌, ℕ, ◌<◌, inl, inr, Bool, false, List, [], length, arith}
use Rattle.std.proofs.lemmas.Bool.{cases_lt}
use Rattle.std.proofs.lemmas.List.{get_or_past}
use Rattle.flow_bits.specs.Sets.{Has, Relates}

pub has_within : (row : List Bool) (v : ℕ) → Has row v → v < length row
has_within row v h = elim (cases_lt v (length row)) [
  | inl l ↦ l
  | inr g ↦ (let e = get_or_past row v false g in cc)
]

pub row_within : (rows : List (List Bool)) (x y : ℕ) → Relates rows x y → x < length rows
row_within rows x y r = elim (cases_lt x (length rows)) [
  | inl l ↦ l
  | inr g ↦ absurd (nothing (rw (get_or_past rows x [] g) at r))
]
  where
    nothing : Has [] y → ⊥
    nothing h = absurd (omega (arith, has_within [] y h))
