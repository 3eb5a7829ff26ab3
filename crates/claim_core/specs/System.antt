-- The equations that are solved: rows of words, one row for each body, and what follows from bits that are set.
use Rattle.std.specs.Prelude.{◌≡◌, ℕ, ◌<◌, ◌==◌, ◌↔◌, Bool, false, List, map, Option, None, Some, IsTrue}
use Rattle.least_solution.specs.Least.{Among, IsListed, IsFinite, least}
use Rattle.least_solution.specs.Rules.{Rule, follows}
use Rattle.claim_core.specs.Bits.{Bit, IsSetIn}

-- Which body has the word in its row, which body calls which, all bits at which a fact stands, and what follows from bits that are
-- set: the equation of each body, for the bits of its row. It is a predicate, and need not be decidable.
pub record System : Type 1 where
  pub bodies : ℕ
  pub words : ℕ
  pub owner : ℕ → Option ℕ
  pub calls : ℕ → ℕ → Bool
  pub facts : List Bit
  pub equation : (Bit → Type 0) → Bit → Type 0

-- the body that has the word, if any, passes
abbrev pub owned_by : (ℕ → Bool) → Option ℕ → Bool
owned_by test None = false
owned_by test (Some c) = test c

-- the word stands in the row of the body
abbrev pub in_row : System → ℕ → ℕ → Bool
in_row sys b w = owned_by (λ c. c == b) (sys.owner w)

-- the word stands in the row of a callee of the body
abbrev pub in_callee : System → ℕ → ℕ → Bool
in_callee sys b w = owned_by (λ c. sys.calls b c) (sys.owner w)

-- What is asked of a system: of the bits that are set, a body looks at those of its callees alone, and more of these make no less of
-- it; whatever follows stands at one of the facts, and follows from finitely many; numbers are in range.
pub record IsSystem (sys : System) : Type 1 where
  pub sees : (R S : Bit → Type 0) (x : Bit) (b : ℕ) → sys.owner x.word ≡ Some b
      → ((y : Bit) → IsTrue (in_callee sys b y.word) → R y → S y) → sys.equation R x → sys.equation S x
  pub listed : IsListed sys.facts sys.equation
  pub finite : IsFinite sys.equation
  pub has_owner : (x : Bit) → Among x sys.facts → (b : ℕ) × (sys.owner x.word ≡ Some b)
  pub has_words : (w b : ℕ) → sys.owner w ≡ Some b → (w < sys.words) × (b < sys.bodies)
  pub has_callers : (a b : ℕ) → IsTrue (sys.calls a b) → a < sys.bodies

-- the equation of the body holds in these rows: what follows for its row is set in it
abbrev pub Meets : System → (ℕ → ℕ) → ℕ → Type 0
Meets sys rows b = (x : Bit) → IsTrue (in_row sys b x.word) → sys.equation (IsSetIn rows) x → IsSetIn rows x

-- the equation of each body holds in these rows
abbrev pub Solves : System → (ℕ → ℕ) → Type 0
Solves sys rows = (b : ℕ) → Meets sys rows b

-- a bit of the least solution: what as many applications of all equations at once as there are facts make of empty rows
abbrev pub InLeast : System → Bit → Type 0
InLeast sys x = least sys.facts sys.equation x

-- each bit that is set is one of the least solution
abbrev pub IsWithinLeast : System → (ℕ → ℕ) → Type 0
IsWithinLeast sys rows = (x : Bit) → IsSetIn rows x → InLeast sys x

-- the rows are the words of the least solution
abbrev pub IsLeast : System → (ℕ → ℕ) → Type 0
IsLeast sys rows = (x : Bit) → IsSetIn rows x ↔ InLeast sys x

-- Systems whose equation is a list of rules, for laws over every system of a kind

pub record Ruled : Type 0 where
  pub bodies : ℕ
  pub words : ℕ
  pub owner : ℕ → Option ℕ
  pub calls : ℕ → ℕ → Bool
  pub rules : List (Rule Bit)

-- the bits that rules make
abbrev pub made_by : List (Rule Bit) → List Bit
made_by rules = map (λ (rule : Rule Bit). rule.makes) rules

abbrev pub system_of : Ruled → System
system_of r = record {
  bodies = r.bodies;
  words = r.words;
  owner = r.owner;
  calls = r.calls;
  facts = made_by r.rules;
  equation = follows r.rules;
}

-- each rule makes a bit of some row, of bits in the rows of that body's callees, and numbers are in range
pub record IsRuled (r : Ruled) : Type 0 where
  pub makes : (rule : Rule Bit) → Among rule r.rules → (b : ℕ) × (r.owner rule.makes.word ≡ Some b)
  pub needs : (rule : Rule Bit) → Among rule r.rules → (b : ℕ) → r.owner rule.makes.word ≡ Some b → (y : Bit) → Among y rule.needs
      → IsTrue (owned_by (λ c. r.calls b c) (r.owner y.word))
  pub has_words : (w b : ℕ) → r.owner w ≡ Some b → (w < r.words) × (b < r.bodies)
  pub has_callers : (a b : ℕ) → IsTrue (r.calls a b) → a < r.bodies
