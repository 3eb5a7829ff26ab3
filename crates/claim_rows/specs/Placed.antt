-- The system of an equation on the facts of a layout: a fact is known where its bit is set.
use Rattle.std.specs.Prelude.{◌≡◌, ℕ, zero, suc, ◌+◌, ◌/◌, ◌%◌, ◌<◌, nat_lt, Bool, ◌&&◌, cond, IsTrue}
use Rattle.std.specs.Prelude.{List, [], ◌∷◌, ◌++◌, length, Option, None, Some}
use Rattle.flow_bits.specs.Words.{word}
use Rattle.least_solution.specs.Least.{Among}
use Rattle.least_solution.specs.Rules.{Rule}
use Rattle.summary_rows.specs.declared.layout.Layout.{Layout}
use Rattle.summary_rows.specs.Facts.{Fact}
use Rattle.summary_rows.specs.Layout.{Stands, row_size, outer_of, first_of, facts}
use Rattle.claim_core.specs.Bits.{Bit}
use Rattle.claim_core.specs.System.{System}

-- the fact stands at this bit of the words of all rows
abbrev pub StandsAt : Layout → Fact → Bit → Type 0
StandsAt l f x = (f.owner < length l.outer)
    × ((n : ℕ) × (Stands (outer_of l f.owner) f.part n × ((x.word ≡ first_of l f.owner + n / 64) × (x.place ≡ n % 64))))

-- the word is one of the body's row
abbrev pub is_in_row : Layout → ℕ → ℕ → Bool
is_in_row l b w = nat_lt (first_of l b) (suc w) && nat_lt w (first_of l b + row_size (length (outer_of l b)))

-- the body below a bound that has the word in its row, if any
abbrev pub owner_below : Layout → ℕ → ℕ → Option ℕ
owner_below l zero w = None
owner_below l (suc b) w = cond (is_in_row l b w) (Some b) (owner_below l b w)

-- the bits of a word, and those of the words below a bound
abbrev pub bits_of : ℕ → ℕ → List Bit
bits_of w zero = []
bits_of w (suc k) = (record { word = w; place = k }) ∷ bits_of w k

abbrev pub bits_below : ℕ → List Bit
bits_below zero = []
bits_below (suc w) = bits_of w 64 ++ bits_below w

-- an equation on facts, for the bits at which they stand
abbrev pub at_bits : Layout → ((Fact → Type 0) → Fact → Type 0) → (Bit → Type 0) → Bit → Type 0
at_bits l F R x = (f : Fact) × (StandsAt l f x × F (λ g. (y : Bit) × (StandsAt l g y × R y)) f)

-- the system of a layout, of who calls whom, and of an equation on the facts of the layout
abbrev pub placed : Layout → (ℕ → ℕ → Bool) → ((Fact → Type 0) → Fact → Type 0) → System
placed l calls F = record {
  bodies = length l.outer;
  words = l.words;
  owner = λ w. owner_below l (length l.outer) w;
  calls = calls;
  facts = bits_below l.words;
  equation = at_bits l F;
}

-- each rule makes a fact of the layout, of facts of callees, and callers are bodies of it
pub record AreOf (l : Layout) (calls : ℕ → ℕ → Bool) (rules : List (Rule Fact)) : Type 0 where
  pub makes : (rule : Rule Fact) → Among rule rules → Among rule.makes (facts l)
  pub needs : (rule : Rule Fact) → Among rule rules → (g : Fact) → Among g rule.needs → IsTrue (calls rule.makes.owner g.owner)
  pub callers : (a b : ℕ) → IsTrue (calls a b) → a < length l.outer

-- the word at each place
abbrev pub words_of : List ℕ → ℕ → ℕ
words_of words w = word words w
