-- The row of a body as words: where the bit of each fact is.
use Rattle.std.specs.Prelude.{◌≡◌, ℕ, ◌+◌, ◌*◌, ◌<◌, ◌≤◌, ◌⊎◌, List, Option, Some, None, IsSomeAnd, IsTrue, length, slice_index_or}
use Rattle.spark_base.specs.declared.numbers.LeafNo.{LeafNo}
use Rattle.flow_bits.specs.Sets.{Has, Relates}
use Rattle.flow_facts.specs.Flow.{Summary}
use Rattle.summary_rows.specs.Facts.{Part, Returning, Reading, Writing, Keeping, Depending}
use Rattle.summary_rows.specs.Layout.{IsAt, reads_from, writes_from, keeps_from, depends_from}
use Rattle.flow_relations.specs.declared.equation.BodyRow.{BodyRow}
use Rattle.flow_relations.specs.declared.frame.Frame.{Frame}
use Rattle.flow_relations.specs.Framing.{Numbered, frame_size, name_at}

-- the summary has the fact
abbrev pub holds : Summary → Part → Type 0
holds s Returning = s.returns
holds s (Reading v) = s.reads v
holds s (Writing v) = s.writes v
holds s (Keeping v) = s.keeps v
holds s (Depending v w) = s.depends v w

-- what a row tells
abbrev pub told_by : BodyRow → Summary
told_by row = record {
  leaves = Has row.leaves;
  returns = IsTrue row.returns;
  reads = Has row.reads;
  writes = Has row.writes;
  keeps = Has row.keeps;
  depends = Numbered row.frame (Relates row.depends);
}

-- Bits. No public answer speaks of them

-- the bit of some leaf of a set, where this is the bit of the first leaf
abbrev pub AtLeaf : List LeafNo → ℕ → (ℕ → Type 0) → ℕ → Type 0
AtLeaf outer first S n = (i v : ℕ) × (IsAt outer v i × ((n ≡ first + i) × S v))

-- the number of the leaf at a place, if any
abbrev pub number_at : List (Option ℕ) → ℕ → Option ℕ
number_at numbers i = slice_index_or numbers i None

-- the bit of some number of a set
abbrev pub AtNumber : List (Option ℕ) → ℕ → (ℕ → Type 0) → ℕ → Type 0
AtNumber numbers first S n = (i : ℕ) × ((n ≡ first + i) × IsSomeAnd (number_at numbers i) S)

-- the bit of some pair of numbers
abbrev pub AtNumbers : List (Option ℕ) → ℕ → (ℕ → ℕ → Type 0) → ℕ → Type 0
AtNumbers numbers first R n = (i : ℕ) × IsSomeAnd (number_at numbers i) (λ k. AtNumber numbers (first + i * length numbers) (R k) n)

-- the bit of something that the row tells
abbrev pub AtRow : BodyRow → List LeafNo → List (Option ℕ) → ℕ → Type 0
AtRow row outer numbers n = ((n ≡ 0) × IsTrue row.returns)
    ⊎ (AtLeaf outer (reads_from (length outer)) (Has row.reads) n
    ⊎ (AtLeaf outer (writes_from (length outer)) (Has row.writes) n
    ⊎ (AtLeaf outer (keeps_from (length outer)) (Has row.keeps) n
    ⊎ AtNumbers numbers (depends_from (length outer)) (Relates row.depends) n)))

-- the number that a leaf has in a frame, if any
abbrev pub IsNumber : Frame → ℕ → Option ℕ → Type 0
IsNumber frame v None = (k : ℕ) → k ≤ frame_size frame → name_at frame k ≡ v → ⊥
IsNumber frame v (Some k) = (k < frame_size frame) × (name_at frame k ≡ v)

-- those of a list of leaves
pub record AreNumbers (frame : Frame) (outer : List LeafNo) (numbers : List (Option ℕ)) : Type 0 where
  pub count : length numbers ≡ length outer
  pub each : (v i : ℕ) → IsAt outer v i → IsNumber frame v (number_at numbers i)
