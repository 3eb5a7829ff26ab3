-- Where a fact stands among the bits of a row, and where a row stands among the words of all.
use Rattle.std.specs.Prelude.{◌≡◌, ℕ, zero, suc, ◌+◌, ◌*◌, ◌^◌, ◌<◌, List, [], Some, slice_get, slice_index_or, length}
use Rattle.spark_base.specs.declared.numbers.LeafNo.{LeafNo}
use Rattle.flow_bits.specs.Words.{words_for}
use Rattle.summary_rows.specs.Bits.{Bit}
use Rattle.summary_rows.specs.declared.layout.Layout.{Layout}
use Rattle.summary_rows.specs.declared.rows.Rows.{Rows}
use Rattle.summary_rows.specs.Facts.{Part, Returning, Reading, Writing, Keeping, Depending, Fact, facts_from}

-- words of a row of so many leaves
abbrev pub row_size : ℕ → ℕ
row_size r = 1 + 3 * words_for r + words_for (r * r)

-- the first bit of each part of a row; that it returns stands at bit 0
abbrev pub reads_from : ℕ → ℕ
reads_from r = 64

abbrev pub writes_from : ℕ → ℕ
writes_from r = 64 + 64 * words_for r

abbrev pub keeps_from : ℕ → ℕ
keeps_from r = 64 + 128 * words_for r

abbrev pub depends_from : ℕ → ℕ
depends_from r = 64 + 192 * words_for r

-- the leaf stands at this place among the row leaves
abbrev pub IsAt : List LeafNo → ℕ → ℕ → Type 0
IsAt outer v i = slice_get outer i ≡ Some (record { 0 = v })

-- the fact stands at this bit of a row of these leaves
abbrev pub Stands : List LeafNo → Part → ℕ → Type 0
Stands outer Returning n = n ≡ 0
Stands outer (Reading v) n = (i : ℕ) × (IsAt outer v i × (n ≡ reads_from (length outer) + i))
Stands outer (Writing v) n = (i : ℕ) × (IsAt outer v i × (n ≡ writes_from (length outer) + i))
Stands outer (Keeping v) n = (i : ℕ) × (IsAt outer v i × (n ≡ keeps_from (length outer) + i))
Stands outer (Depending v w) n =
    (i : ℕ) × ((j : ℕ) × (IsAt outer v i × (IsAt outer w j × (n ≡ depends_from (length outer) + (i * length outer + j)))))

-- each leaf is greater than those before it
abbrev pub IsIncreasing : List LeafNo → Type 0
IsIncreasing outer = (v w i j : ℕ) → IsAt outer v i → IsAt outer w j → i < j → v < w

-- the row leaves of a body, and its first word
abbrev pub outer_of : Layout → ℕ → List LeafNo
outer_of l b = slice_index_or l.outer b []

abbrev pub first_of : Layout → ℕ → ℕ
first_of l b = slice_index_or l.first b 0

-- words of the rows of the bodies below b
abbrev pub words_before : List (List LeafNo) → ℕ → ℕ
words_before outer zero = 0
words_before outer (suc b) = words_before outer b + row_size (length (slice_index_or outer b []))

-- the leaves of each row increase, and the rows stand one behind another
pub record IsLayout (l : Layout) : Type 0 where
  pub increasing : (b : ℕ) → IsIncreasing (outer_of l b)
  pub firsts : length l.first ≡ length l.outer
  pub first : (b : ℕ) → b < length l.outer → first_of l b ≡ words_before l.outer b
  pub words : l.words ≡ words_before l.outer (length l.outer)
  pub fits : l.words < 2 ^ 32

-- all facts of a layout, each once
abbrev pub facts : Layout → List Fact
facts l = facts_from 0 l.outer

-- the words of one row tell the fact
abbrev pub RowTells : List LeafNo → List ℕ → Part → Type 0
RowTells outer words x = (n : ℕ) × (Stands outer x n × Bit words n)

-- no bit of the words of a row is set at which no fact stands
abbrev pub IsTidyRow : List LeafNo → List ℕ → Type 0
IsTidyRow outer words = (n : ℕ) → Bit words n → (x : Part) × Stands outer x n

-- the rows tell the fact
abbrev pub told : Rows → Fact → Type 0
told rows f = (f.owner < length rows.layout.outer)
    × ((n : ℕ) × (Stands (outer_of rows.layout f.owner) f.part n × Bit rows.words (64 * first_of rows.layout f.owner + n)))

-- a fact came in
abbrev pub GainsFact : Rows → Rows → Type 0
GainsFact old new = (f : Fact) × (told old f → ⊥) × told new f

-- as many words as the layout says
pub record AreRows (rows : Rows) : Type 0 where
  pub layout : IsLayout rows.layout
  pub size : length rows.words ≡ rows.layout.words

-- no bit of any row is set at which no fact stands
abbrev pub IsTidy : Rows → Type 0
IsTidy rows = (b n : ℕ) → b < length rows.layout.outer → n < 64 * row_size (length (outer_of rows.layout b))
    → Bit rows.words (64 * first_of rows.layout b + n) → (x : Part) × Stands (outer_of rows.layout b) x n
