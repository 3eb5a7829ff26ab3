-- Which leaves the row of each body has: its own, and of those of the rows that it sees the library leaves.
use Rattle.std.specs.Prelude.{◌≡◌, ℕ, zero, suc, ◌+◌, ◌<◌, ◌^◌, ◌⊎◌, ◌↔◌, All, false, List, [], slice_index_or, length, IsTrue}
use Rattle.spark_base.specs.declared.numbers.LeafNo.{LeafNo}
use Rattle.call_lists.specs.Lists.{AreLists, Names}
use Rattle.summary_rows.specs.Layout.{IsAt, IsIncreasing, words_before}
use Rattle.row_leaves.specs.declared.leaves.Bodies.{Bodies}

-- the list has the leaf
abbrev pub HasLeaf : List LeafNo → ℕ → Type 0
HasLeaf leaves v = (i : ℕ) × IsAt leaves v i

-- the row of the body has the leaf, whatever the others have
abbrev pub IsOwn : Bodies → ℕ → ℕ → Type 0
IsOwn d b v = Names (slice_index_or d.holders v []) b

-- the body sees the row of another
abbrev pub Sees : Bodies → ℕ → ℕ → Type 0
Sees d b c = Names (slice_index_or d.sees b []) c

abbrev pub IsLibrary : Bodies → ℕ → Type 0
IsLibrary d v = IsTrue (slice_index_or d.library v false)

-- by so many rounds at most
abbrev pub RowLeafWithin : Bodies → ℕ → ℕ → ℕ → Type 0
RowLeafWithin d zero b v = ⊥
RowLeafWithin d (suc n) b v = IsOwn d b v ⊎ ((c : ℕ) × (Sees d b c × (IsLibrary d v × RowLeafWithin d n c v)))

-- a leaf of the row of a body: the least sets of which this holds
abbrev pub IsRowLeaf : Bodies → ℕ → ℕ → Type 0
IsRowLeaf d b v = (n : ℕ) × RowLeafWithin d n b v

-- the lists fit one another
pub record AreBodies (d : Bodies) : Type 0 where
  pub sees : AreLists (length d.sees) d.sees
  pub holders : All (λ list. All (λ b. b.0 < length d.sees) list) d.holders
  pub library : length d.library ≡ length d.holders
  pub beside : length d.beside ≡ length d.sees
  pub few_bodies : length d.sees < 2 ^ 32
  pub few_leaves : length d.holders < 2 ^ 32

-- the row leaves of each body, in increasing order
pub record AreRowLeaves (d : Bodies) (outer : List (List LeafNo)) : Type 0 where
  pub bodies : length outer ≡ length d.sees
  pub increasing : (b : ℕ) → IsIncreasing (slice_index_or outer b [])
  pub leaves : (b v : ℕ) → b < length outer → HasLeaf (slice_index_or outer b []) v ↔ IsRowLeaf d b v

-- the row words up to the body, or the leaves of its frame, are too many
abbrev pub most_words : ℕ
most_words = 8388608

abbrev pub most_leaves : ℕ
most_leaves = 4096

abbrev pub IsTooLarge : Bodies → List (List LeafNo) → ℕ → Type 0
IsTooLarge d outer b =
    (most_words < words_before outer (suc b)) ⊎ (most_leaves < length (slice_index_or outer b []) + slice_index_or d.beside b 0)

-- of these bodies, the first for which there is no room
abbrev pub IsFirstTooLarge : Bodies → List (List LeafNo) → ℕ → Type 0
IsFirstTooLarge d outer b = (b < length d.sees) × (IsTooLarge d outer b × ((c : ℕ) → c < b → IsTooLarge d outer c → ⊥))
