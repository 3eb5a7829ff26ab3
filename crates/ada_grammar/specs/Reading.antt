-- What readers know on their way, and promise one another. No public answer speaks of it.
use Rattle.std.specs.Prelude.{ℕ, ◌<◌, ◌≤◌, length, drop, Result, Ok, Err, ◌≡◌, Bool, false, List, [], ◌∷◌, ◌++◌, Some, None}
use Rattle.ada_grammar.specs.declared.tokens.Cursor.{Cursor}
use Rattle.ada_grammar.specs.declared.tokens.Nesting.{Nesting}
use Rattle.ada_grammar.specs.declared.tokens.Fault.{Fault}
use Rattle.ada_grammar.specs.declared.tokens.Fault.TheVariants as faults
use Rattle.ada_grammar.specs.declared.nodes.Built.{Built}
use Rattle.ada_grammar.specs.Sorts.{Sort}
use Rattle.ada_grammar.specs.Lexemes.{Lexeme, sort}
use Rattle.ada_grammar.specs.Limits.{step, walk}
use Rattle.ada_grammar.specs.Phrases.{Tree, Phrase}
use Rattle.ada_grammar.specs.Built.{phrase}
use Rattle.ada_grammar.specs.Parts.{Part, Body, Never, Gives}
use Rattle.ada_grammar.specs.Spelling.{Fits, Spells}
use Rattle.ada_grammar.specs.More.{more}
use Rattle.ada_grammar.specs.Fronts.{Point, Viable, Bars}

abbrev pub point : List Lexeme → Cursor → Point
point ts c = record { rest = drop c.at ts; level = c.nesting }

-- w can stand in the place of r for one who has seen no more of r than its first token
abbrev pub At : List Lexeme → List Lexeme → Type 0
At r [] = Unit {0}
At [] (t ∷ w) = ⊥
At (s ∷ r) (t ∷ w) = s ≡ t

-- no token of these sorts stands first
abbrev pub Free : (Sort → Bool) → List Lexeme → Type 0
Free more [] = Unit {0}
Free more (t ∷ q) = more (sort t) ≡ false

-- From p to q tokens were read, which pass no limit, and what is still to come for the part is exactly what rest says:
-- each such end makes a sentence of the part, and each sentence that goes on as the tokens at q do, and stops before a
-- token with which it could go on, has such an end. Some sentence begins so.
pub record Awaits (part : Part) (p q : Point) (rest : Body) : Type 0 where
  pub word : List Lexeme
  pub splits : p.rest ≡ word ++ q.rest
  pub walked : walk p.level word ≡ Some q.level
  pub viable : Viable part word
  pub made : (y : Phrase) (v : List Lexeme) → Fits rest y v → Spells part y (word ++ v)
  pub only : (y : Phrase) (s r w : List Lexeme)
      → At q.rest w → s ++ r ≡ word ++ w → Free (more part) r → Spells part y s
      → (v : List Lexeme) × (s ≡ word ++ v) × (v ++ r ≡ w) × Fits rest y v

-- the part reads from p as far as q, and as x
abbrev pub Reads : Part → Point → Point → Phrase → Type 0
Reads part p q x = Awaits part p q (Gives x)

-- The tokens from the cursor to the place i are the longest front with which some sentence begins; they are none, and
-- pass no limit.
pub record Refused (part : Part) (ts : List Lexeme) (cursor : Cursor) (i : ℕ) : Type 0 where
  pub ends : i ≤ length ts
  pub level : Nesting
  pub sticks : Awaits part (point ts cursor) (record { rest = drop i ts; level = level }) Never

pub record Barred (part : Part) (ts : List Lexeme) (cursor : Cursor) (i : ℕ) : Type 0 where
  pub ends : i < length ts
  pub bars : Bars part (point ts cursor) (drop i ts)

-- the tokens from the cursor to the next are read as a node that was built
pub record Done (part : Part) (ts : List Lexeme) (cursor : Cursor) (built : List Tree) (x : Built) (next : Cursor)
    : Type 0 where
  pub within : x.node.0 < length built
  pub forward : cursor.at ≤ next.at
  pub ends : next.at ≤ length ts
  pub reads : Reads part (point ts cursor) (point ts next) (phrase built x)

-- how a reader of the part fails at the cursor
abbrev pub Fails : Part → List Lexeme → Cursor → Fault → Type 0
Fails part ts cursor faults.NoMemory = Unit {0}
Fails part ts cursor (faults.Syntax i) = Refused part ts cursor i
Fails part ts cursor (faults.Limit i) = Barred part ts cursor i

-- what a reader of the part answers at the cursor
abbrev pub Answers : Part → List Lexeme → Cursor → List Tree → Result (Built × Cursor) Fault → Type 0
Answers part ts cursor built (Ok (x, next)) = Done part ts cursor built x next
Answers part ts cursor built (Err e) = Fails part ts cursor e
