-- A row of flags read as a set of numbers, and a list of rows as a relation.
use Rattle.std.specs.Prelude.{◌≡◌, ℕ, zero, suc, ◌<◌, Bool, true, false, List, [], length, slice_index_or, ◌⊎◌, ◌↔◌}

-- the number is in the set
abbrev pub Has : List Bool → ℕ → Type 0
Has row v = slice_index_or row v false ≡ true

-- the row tells exactly this set
abbrev pub Tells : List Bool → (ℕ → Type 0) → Type 0
Tells row S = (v : ℕ) → Has row v ↔ S v

-- what is in either set
abbrev pub either : List Bool → (ℕ → Type 0) → ℕ → Type 0
either row S v = Has row v ⊎ S v

-- the pair is in the relation
abbrev pub Relates : List (List Bool) → ℕ → ℕ → Type 0
Relates square a b = Has (slice_index_or square a []) b

-- the square tells exactly this relation
abbrev pub TellsPairs : List (List Bool) → (ℕ → ℕ → Type 0) → Type 0
TellsPairs square R = (a b : ℕ) → Relates square a b ↔ R a b

-- a number came in
abbrev pub Gains : List Bool → List Bool → Type 0
Gains old new = (v : ℕ) × (Has old v → ⊥) × Has new v

-- a pair came in
abbrev pub GainsPair : List (List Bool) → List (List Bool) → Type 0
GainsPair old new = (a b : ℕ) × (Relates old a b → ⊥) × Relates new a b

-- from a to c through some number between
abbrev pub Composes : List (List Bool) → List (List Bool) → ℕ → ℕ → Type 0
Composes first second a c = (b : ℕ) × (Relates first a b × Relates second b c)

-- so many steps of a relation
abbrev pub Steps : (ℕ → ℕ → Type 0) → ℕ → ℕ → ℕ → Type 0
Steps R zero v w = v ≡ w
Steps R (suc n) v w = (u : ℕ) × (R v u × Steps R n u w)

-- any number of steps, from a number below the size
abbrev pub Closes : List (List Bool) → ℕ → ℕ → Type 0
Closes square v w = (v < length square) × ((n : ℕ) × Steps (Relates square) n v w)
