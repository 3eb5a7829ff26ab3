-- Lists of bodies by body, and marks of bodies.
use Rattle.std.specs.Prelude.{◌≡◌, ℕ, ◌<◌, All, Bool, true, false, List, Some, slice_get, slice_index_or, length}
use Rattle.spark_base.specs.declared.numbers.BodyNo.{BodyNo}

-- the element at a place of the list is this body
abbrev pub IsBodyAt : List BodyNo → ℕ → ℕ → Type 0
IsBodyAt bs c k = (b : BodyNo) × ((slice_get bs k ≡ Some b) × (b.0 ≡ c))

-- the list names a body, at a place below a bound
abbrev pub NamesBelow : ℕ → List BodyNo → ℕ → Type 0
NamesBelow n bs c = (k : ℕ) × ((k < n) × IsBodyAt bs c k)

-- the list names a body
abbrev pub Names : List BodyNo → ℕ → Type 0
Names bs c = NamesBelow (length bs) bs c

-- there is a list for each of so many bodies, which names bodies alone
pub record AreLists (n : ℕ) (lists : List (List BodyNo)) : Type 0 where
  pub size : length lists ≡ n
  pub below : All (λ list. All (λ b. b.0 < n) list) lists

-- a body is marked
abbrev pub Has : List Bool → ℕ → Type 0
Has marks b = slice_index_or marks b false ≡ true
