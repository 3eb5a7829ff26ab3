-- What a look at the next token tells.
use Rattle.std.specs.Prelude.{◌≡◌, ◌+◌, ◌<◌, ℕ, true, false, List, ◌∷◌, length, drop, Option, Some, None, Result, Ok, Err}
use Rattle.ada_tree.specs.declared.token.Token.{Token}
use Rattle.ada_grammar.specs.declared.tokens.Class.{Class}
use Rattle.ada_grammar.specs.declared.tokens.Cursor.{Cursor}
use Rattle.ada_grammar.specs.declared.tokens.Fault.{Fault}
use Rattle.ada_grammar.specs.declared.tokens.Fault.TheVariants as faults
use Rattle.ada_grammar.specs.Sorts.{is_in}
use Rattle.ada_grammar.specs.Lexemes.{Lexeme, sort}
use Rattle.ada_grammar.specs.Limits.{step}
use Rattle.ada_grammar.specs.Fronts.{Point}
use Rattle.ada_grammar.specs.Reading.{point}

-- the first token is this one, and of the class
pub record Begins (c : Class) (t : Lexeme) (r further : List Lexeme) : Type 0 where
  pub sort : is_in c (sort t) ≡ true
  pub joins : r ≡ t ∷ further

-- the first token is not of the class
pub record NotFirst (c : Class) (r : List Lexeme) : Type 0 where
  pub other : (t : Lexeme) (further : List Lexeme) → r ≡ t ∷ further → is_in c (sort t) ≡ false

-- the first token is of the class, passes no limit, and was read
pub record Takes (c : Class) (t : Lexeme) (p q : Point) : Type 0 where
  pub begins : Begins c t p.rest q.rest
  pub stepped : step p.level (sort t) ≡ Some q.level

-- the first token is of the class, and passes a limit
pub record Stops (c : Class) (p : Point) : Type 0 where
  pub token : Lexeme
  pub further : List Lexeme
  pub begins : Begins c token p.rest further
  pub stepped : step p.level (sort token) ≡ None

-- a token was taken: the place behind it
pub record IsTaken (c : Class) (ts : List Lexeme) (cursor : Cursor) (t : Lexeme) (behind : Cursor) : Type 0 where
  pub takes : Takes c t (point ts cursor) (point ts behind)
  pub place : behind.at ≡ cursor.at + 1
  pub within : cursor.at < length ts

pub record IsBarred (c : Class) (ts : List Lexeme) (cursor : Cursor) (i : ℕ) : Type 0 where
  pub place : i ≡ cursor.at
  pub within : cursor.at < length ts
  pub stops : Stops c (point ts cursor)

pub record IsMissing (c : Class) (ts : List Lexeme) (cursor : Cursor) (i : ℕ) : Type 0 where
  pub place : i ≡ cursor.at
  pub other : NotFirst c (drop cursor.at ts)

-- why a token that has to stand there is not taken
abbrev pub Misses : Class → List Lexeme → Cursor → Fault → Type 0
Misses c ts cursor faults.NoMemory = ⊥
Misses c ts cursor (faults.Syntax i) = IsMissing c ts cursor i
Misses c ts cursor (faults.Limit i) = IsBarred c ts cursor i

-- why a token that may stand there is not taken
abbrev pub Passes : Class → List Lexeme → Cursor → Fault → Type 0
Passes c ts cursor faults.NoMemory = ⊥
Passes c ts cursor (faults.Syntax i) = ⊥
Passes c ts cursor (faults.Limit i) = IsBarred c ts cursor i

-- a token of the class is taken, or it is not there, or passes a limit
abbrev pub Expects : Class → (Token → Lexeme) → List Lexeme → Cursor → Result (Token × Cursor) Fault → Type 0
Expects c of ts cursor (Ok (t, next)) = IsTaken c ts cursor (of t) next
Expects c of ts cursor (Err e) = Misses c ts cursor e

abbrev pub Looks : Class → (Token → Lexeme) → List Lexeme → Cursor → Option (Token × Cursor) → Type 0
Looks c of ts cursor None = NotFirst c (drop cursor.at ts)
Looks c of ts cursor (Some (t, next)) = IsTaken c ts cursor (of t) next

abbrev pub Accepts : Class → (Token → Lexeme) → List Lexeme → Cursor → Result (Option (Token × Cursor)) Fault → Type 0
Accepts c of ts cursor (Ok found) = Looks c of ts cursor found
Accepts c of ts cursor (Err e) = Passes c ts cursor e
