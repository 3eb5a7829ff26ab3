-- The facts of rows: what may be known of a body.
use Rattle.std.specs.Prelude.{ℕ, suc, List, [], ◌∷◌, ◌++◌, map}
use Rattle.spark_base.specs.declared.numbers.LeafNo.{LeafNo}

-- what may be known of one body, where a leaf is told by its number
pub data Part : Type 0 where
  Returning : Part  -- it may return
  Reading : ℕ → Part  -- it may read the value that the leaf has at entry
  Writing : ℕ → Part  -- it may write or clear the leaf
  Keeping : ℕ → Part  -- it may return with the leaf as it was
  Depending : ℕ → ℕ → Part  -- the value of the first at entry may decide that of the second at the return

-- which of the five parts of a row has the fact
abbrev pub part_no : Part → ℕ
part_no Returning = 0
part_no (Reading v) = 1
part_no (Writing v) = 2
part_no (Keeping v) = 3
part_no (Depending v w) = 4

-- such a fact, and the body of which it is
pub record Fact : Type 0 where
  pub owner : ℕ
  pub part : Part

-- each leaf of the first list with each of the second
abbrev pub pairs : List LeafNo → List LeafNo → List Part
pairs [] to = []
pairs (v ∷ vs) to = map (λ w. Depending v.0 w.0) to ++ pairs vs to

-- the facts of a row of these leaves, each once
abbrev pub parts : List LeafNo → List Part
parts outer =
    Returning ∷ (map (λ v. Reading v.0) outer ++ (map (λ v. Writing v.0) outer ++ (map (λ v. Keeping v.0) outer ++ pairs outer outer)))

-- the facts of the rows of these bodies, whose numbers begin with b
abbrev pub facts_from : ℕ → List (List LeafNo) → List Fact
facts_from b [] = []
facts_from b (outer ∷ rest) = map (λ x. record { owner = b; part = x }) (parts outer) ++ facts_from (suc b) rest
