-- What a body does with the items of contracts, by its row.
use Rattle.std.specs.Prelude.{ℕ, ◌⊎◌, IsSomeAnd}
use Rattle.core_form.specs.declared.program.Home.{Home}
use Rattle.core_form.specs.declared.program.Item.{Item}
use Rattle.core_form.specs.declared.program.Program.{Program}
use Rattle.core_form.specs.Fine.{home_of}
use Rattle.core_form.specs.Leaves.{IsLeafOf}
use Rattle.spark_messages.specs.declared.message_texts.UsedMode.{UsedMode}
use Rattle.spark_messages.specs.declared.message_texts.UsedMode.TheVariants as used
use Rattle.summary_rows.specs.declared.rows.Rows.{Rows}
use Rattle.summary_rows.specs.Facts.{Fact, Part, Returning, Reading, Writing, Keeping}
use Rattle.summary_rows.specs.Layout.{IsAt, outer_of, told}
use Rattle.used_modes.specs.declared.used.Question.{Question}

-- what the row of a body tells of leaves
pub record BodyFacts : Type 1 where
  -- the leaves of which it speaks
  pub leaves : ℕ → Type 0
  -- the body may return
  pub returns : Type 0
  -- leaves whose entry value may be read
  pub reads : ℕ → Type 0
  -- leaves that may be written or cleared
  pub writes : ℕ → Type 0
  -- leaves that may hold their entry value at the return
  pub keeps : ℕ → Type 0

abbrev pub of_body : ℕ → Part → Fact
of_body b part = record { owner = b; part = part }

abbrev pub row_of : Rows → ℕ → BodyFacts
row_of rows b = record {
  leaves = λ v. (i : ℕ) × IsAt (outer_of rows.layout b) v i;
  returns = told rows (of_body b Returning);
  reads = λ v. told rows (of_body b (Reading v));
  writes = λ v. told rows (of_body b (Writing v));
  keeps = λ v. told rows (of_body b (Keeping v));
}

-- a leaf of the library: of a package, or the clock
abbrev pub IsLibraryHome : Home → Type 0
IsLibraryHome (Home.Package k) = Unit {0}
IsLibraryHome (Home.Local b) = ⊥
IsLibraryHome (Home.Formal b) = ⊥
IsLibraryHome (Home.Outcome b) = ⊥
IsLibraryHome (Home.Spare b) = ⊥
IsLibraryHome Home.Clock = Unit {0}

abbrev pub IsLibrary : Program → ℕ → Type 0
IsLibrary p leaf = IsSomeAnd (home_of p leaf) IsLibraryHome

-- some leaf of an item passes
abbrev pub SomeLeaf : Program → Item → (ℕ → Type 0) → Type 0
SomeLeaf p i P = (leaf : ℕ) × (IsLeafOf p i leaf × P leaf)

-- the leaf may hold its entry value where the body returns: it is kept, or the row does not speak of it
abbrev pub Stays : BodyFacts → ℕ → Type 0
Stays row leaf = row.keeps leaf ⊎ (row.leaves leaf → ⊥)

-- what is asked of a leaf
abbrev pub asked : BodyFacts → Question → ℕ → Type 0
asked row Question.Read = row.reads
asked row Question.Written = row.writes
asked row Question.Stays = Stays row

-- the body may return, and leave what the item held
abbrev pub IsLeft : Program → BodyFacts → Item → Type 0
IsLeft p row i = row.returns × SomeLeaf p i (Stays row)

-- the used mode of an item
abbrev pub HasMode : Program → BodyFacts → Item → UsedMode → Type 0
HasMode p row i used.Nothing = (SomeLeaf p i row.reads → ⊥) × (SomeLeaf p i row.writes → ⊥)
HasMode p row i used.Input = SomeLeaf p i row.reads × (SomeLeaf p i row.writes → ⊥)
HasMode p row i used.Output = SomeLeaf p i row.writes × ((SomeLeaf p i row.reads → ⊥) × (IsLeft p row i → ⊥))
HasMode p row i used.InOut = SomeLeaf p i row.writes × (SomeLeaf p i row.reads ⊎ IsLeft p row i)
