-- What is known of a callee by places in the list of its leaves.
use Rattle.std.specs.Prelude.{◌≡◌, ℕ, ◌↔◌, IsTrue, List, length, slice_index_or}
use Rattle.spark_base.specs.declared.numbers.LeafNo.{LeafNo}
use Rattle.flow_bits.specs.Sets.{Has, Relates}
use Rattle.flow_facts.specs.Flow.{Summary}
use Rattle.summary_rows.specs.Facts.{Part, Reading, Writing, Keeping}
use Rattle.summary_rows.specs.Layout.{IsAt}
use Rattle.call_flow.specs.declared.known.Known.{Known}
use Rattle.callee_view.specs.declared.rows.Question.{Question}

-- the fact that a question asks of a leaf
abbrev pub part_asked : Question → ℕ → Part
part_asked Question.Reads v = Reading v
part_asked Question.Writes v = Writing v
part_asked Question.Keeps v = Keeping v

-- the leaf at a place
abbrev pub leaf_at : List LeafNo → ℕ → ℕ
leaf_at outer i = (slice_index_or outer i (record { 0 = 0 })).0

-- the place of some leaf of the set
abbrev pub Placed : List LeafNo → (ℕ → Type 0) → ℕ → Type 0
Placed outer S i = (v : ℕ) × (IsAt outer v i × S v)

-- the places of some leaves that are related
abbrev pub PlacedPairs : List LeafNo → (ℕ → ℕ → Type 0) → ℕ → ℕ → Type 0
PlacedPairs outer R i j = (v : ℕ) × ((w : ℕ) × (IsAt outer v i × (IsAt outer w j × R v w)))

-- the sets and pairs are of so many places
pub record AreKnownSized (n : ℕ) (k : Known) : Type 0 where
  pub reads : length k.reads ≡ n
  pub writes : length k.writes ≡ n
  pub keeps : length k.keeps ≡ n
  pub depends : length k.depends ≡ n

-- the sets of places show the facts of a summary
pub record Shows (outer : List LeafNo) (k : Known) (s : Summary) : Type 0 where
  pub returns : IsTrue k.returns ↔ s.returns
  pub reads : (i : ℕ) → Has k.reads i ↔ Placed outer s.reads i
  pub writes : (i : ℕ) → Has k.writes i ↔ Placed outer s.writes i
  pub keeps : (i : ℕ) → Has k.keeps i ↔ Placed outer s.keeps i
  pub depends : (i j : ℕ) → Relates k.depends i j ↔ PlacedPairs outer s.depends i j

-- a summary speaks of these leaves, and its facts are of them
pub record IsAbout (outer : List LeafNo) (s : Summary) : Type 0 where
  pub leaves : (v : ℕ) → s.leaves v ↔ ((i : ℕ) × IsAt outer v i)
  pub reads : (v : ℕ) → s.reads v → s.leaves v
  pub writes : (v : ℕ) → s.writes v → s.leaves v
  pub keeps : (v : ℕ) → s.keeps v → s.leaves v
  pub depends : (v w : ℕ) → s.depends v w → s.leaves v × s.leaves w
