-- A search along callers, and rows while leaves come. No public answer speaks of it.
use Rattle.std.specs.Prelude.{◌≡◌, ℕ, zero, suc, ◌+◌, ◌<◌, ◌≤◌, ◌↔◌, ◌++◌, All, Bool, true, false, cond, List, [], ◌∷◌, slice_index_or, length}
use Rattle.spark_base.specs.declared.numbers.BodyNo.{BodyNo}
use Rattle.spark_base.specs.declared.numbers.LeafNo.{LeafNo}
use Rattle.call_lists.specs.Lists.{NamesBelow, Names, Has}
use Rattle.summary_rows.specs.Layout.{IsIncreasing}
use Rattle.row_leaves.specs.declared.leaves.Bodies.{Bodies}
use Rattle.row_leaves.specs.Leaves.{HasLeaf, IsRowLeaf}

-- so many calls lead from the body to one of the starts
abbrev pub Leads : List (List BodyNo) → List BodyNo → ℕ → ℕ → Type 0
Leads callers starts zero b = Names starts b
Leads callers starts (suc n) b = (c : ℕ) × (Names (slice_index_or callers c []) b × Leads callers starts n c)

abbrev pub LeadsTo : List (List BodyNo) → List BodyNo → ℕ → Type 0
LeadsTo callers starts b = (n : ℕ) × Leads callers starts n b

-- the starts, and where it spreads all that lead to them
abbrev pub Spread : Bool → List (List BodyNo) → List BodyNo → ℕ → Type 0
Spread true callers starts b = LeadsTo callers starts b
Spread false callers starts b = Names starts b

-- how many marks are clear
abbrev pub clear : List Bool → ℕ
clear [] = 0
clear (m ∷ ms) = cond m 0 1 + clear ms

-- a list of the bodies that are marked, each once
pub record IsFound (marks : List Bool) (found : List BodyNo) : Type 0 where
  pub names : (c : ℕ) → Names found c ↔ Has marks c
  pub below : All (λ b. b.0 < length marks) found
  pub count : length found + clear marks ≡ length marks

-- the callers of those that stand before a place were looked at
pub record IsSearching (callers : List (List BodyNo)) (starts : List BodyNo) (marks : List Bool) (found : List BodyNo)
    (place : ℕ) : Type 0 where
  pub within : place ≤ length found
  pub size : length marks ≡ length callers
  pub lists : IsFound marks found
  pub leads : (b : ℕ) → Has marks b → LeadsTo callers starts b
  pub first : (b : ℕ) → Names starts b → Has marks b
  pub done : (c b : ℕ) → NamesBelow place found c → Names (slice_index_or callers c []) b → Has marks b

-- a list with the leaf at its end, or as it was
abbrev pub grown : LeafNo → Bool → List LeafNo → List LeafNo
grown v holds leaves = cond holds (leaves ++ v ∷ []) leaves

-- the leaves of the body's row below a bound, in increasing order
pub record IsRowBelow (d : Bodies) (b bound : ℕ) (list : List LeafNo) : Type 0 where
  pub increasing : IsIncreasing list
  pub leaves : (v : ℕ) → HasLeaf list v ↔ ((v < bound) × IsRowLeaf d b v)
