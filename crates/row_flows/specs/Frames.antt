-- The frame of a body that calls others.
use Rattle.std.specs.Prelude.{◌≡◌, ℕ, ◌<◌, ◌⊎◌, List, [], ◌∷◌, slice_get, length}
use Rattle.spark_base.specs.declared.numbers.BodyNo.{BodyNo}
use Rattle.spark_base.specs.declared.numbers.LeafNo.{LeafNo}
use Rattle.core_form.specs.declared.program.Program.{Program}
use Rattle.summary_rows.specs.declared.layout.Layout.{Layout}
use Rattle.summary_rows.specs.Layout.{IsAt}
use Rattle.call_flow.specs.Calls.{stands}
use Rattle.callee_view.specs.Seen.{seen}
use Rattle.callee_view.specs.Signatures.{signature_of}
use Rattle.flow_relations.specs.Framing.{IsFrameLeaf}
use Rattle.flow_relations.specs.Summaries.{row_leaf_of}

-- the leaf is in the list
abbrev pub IsIn : List LeafNo → ℕ → Type 0
IsIn leaves v = (i : ℕ) × IsAt leaves v i

-- one of so many leaves that stands under its own name in a call where these are passed: it is not passed
abbrev pub StandsAside : ℕ → List LeafNo → ℕ → Type 0
StandsAside void passed v = (v < void) × (stands (λ u. u) void passed v ≡ v)

-- a body sees the callee speak of the leaf, which is not passed
abbrev pub IsSeenAside : Program → Layout → ℕ → BodyNo → ℕ → Type 0
IsSeenAside p l b c v =
    (seen p l (λ f. ⊥) (slice_get p.bodies b) c).leaves v × StandsAside (length p.leaves) (signature_of p c.0).leaves v

-- some callee of the list
abbrev pub IsSeenOfSome : Program → Layout → ℕ → List BodyNo → ℕ → Type 0
IsSeenOfSome p l b [] v = ⊥
IsSeenOfSome p l b (c ∷ cs) v = IsSeenAside p l b c v ⊎ IsSeenOfSome p l b cs v

-- a leaf that the body's code names, one of its own, one of its row, or one of which it sees some callee of the list speak
abbrev pub IsLeafOver : Program → Layout → ℕ → List BodyNo → ℕ → Type 0
IsLeafOver p l b callees v = IsFrameLeaf p b v ⊎ (row_leaf_of l b v ⊎ IsSeenOfSome p l b callees v)
