-- What is read between two parts: the words of an operator, and one suffix of a name.
use Rattle.std.specs.Prelude.{◌<◌, ◌≤◌, Bool, List, length, Option, Some, None, Result, Ok, Err}
use Rattle.ada_tree.specs.declared.expressions.LogicalOperator.{LogicalOperator}
use Rattle.ada_tree.specs.declared.token.Token.{Token}
use Rattle.ada_grammar.specs.declared.tokens.Cursor.{Cursor}
use Rattle.ada_grammar.specs.declared.tokens.Fault.{Fault}
use Rattle.ada_grammar.specs.declared.nodes.Built.{Built}
use Rattle.ada_grammar.specs.Lexemes.{Lexeme}
use Rattle.ada_grammar.specs.Phrases.{Phrase, Tree}
use Rattle.ada_grammar.specs.Built.{phrase}
use Rattle.ada_grammar.specs.Parts.{Part, RestOfExpr, Opened, Chain, Begun, Suffixes, Gives, Rest, Call}
use Rattle.ada_grammar.specs.Reading.{point, Awaits, Fails}

-- From the cursor to the next the words of an operator stand; whatever stands before them, its right operand follows
pub record IsOpened (ts : List Lexeme) (cursor : Cursor) (operator : LogicalOperator) (t : Lexeme) (next : Cursor) : Type 0 where
  pub forward : cursor.at < next.at
  pub ends : next.at ≤ length ts
  pub awaits : (a : Phrase) → Awaits (RestOfExpr a) (point ts cursor) (point ts next) (Rest (Opened operator a t))

abbrev pub Opens : (Token → Lexeme) → List Lexeme → Cursor → Result (Option (LogicalOperator × Token × Cursor)) Fault → Type 0
Opens of ts cursor (Ok None) = (a : Phrase) → Awaits (RestOfExpr a) (point ts cursor) (point ts cursor) (Gives a)
Opens of ts cursor (Ok (Some (operator, t, next))) = IsOpened ts cursor operator (of t) next
Opens of ts cursor (Err e) = (a : Phrase) → Fails (RestOfExpr a) ts cursor e

-- the same of a further operator of a chain
pub record IsLinked (operator : LogicalOperator) (ts : List Lexeme) (cursor : Cursor) (t : Lexeme) (next : Cursor) : Type 0 where
  pub forward : cursor.at < next.at
  pub ends : next.at ≤ length ts
  pub awaits : (a : Phrase) → Awaits (Chain operator a) (point ts cursor) (point ts next)
      (Call (Begun operator a t) (λ b. Rest (Chain operator b)))

abbrev pub Links : LogicalOperator → (Token → Lexeme) → List Lexeme → Cursor → Result (Option (Token × Cursor)) Fault → Type 0
Links operator of ts cursor (Ok None) = (a : Phrase) → Awaits (Chain operator a) (point ts cursor) (point ts cursor) (Gives a)
Links operator of ts cursor (Ok (Some (t, next))) = IsLinked operator ts cursor (of t) next
Links operator of ts cursor (Err e) = (a : Phrase) → Fails (Chain operator a) ts cursor e

-- from the cursor to the next one suffix of the name stands, and more may follow
pub record IsSuffixed (part : Part) (ts : List Lexeme) (cursor : Cursor) (built : List Tree) (x : Built) (next : Cursor)
    (may_open : Bool) : Type 0 where
  pub within : x.node.0 < length built
  pub forward : cursor.at < next.at
  pub ends : next.at ≤ length ts
  pub awaits : Awaits part (point ts cursor) (point ts next) (Rest (Suffixes may_open (phrase built x)))

abbrev pub Suffixed : Part → List Lexeme → Cursor → List Tree → Result (Built × Cursor × Bool) Fault → Type 0
Suffixed part ts cursor built (Ok (x, next, may_open)) = IsSuffixed part ts cursor built x next may_open
Suffixed part ts cursor built (Err e) = Fails part ts cursor e

-- the same where none may stand
abbrev pub MaybeSuffixed : Bool → Phrase → List Lexeme → Cursor → List Tree
    → Result (Option (Built × Cursor × Bool)) Fault → Type 0
MaybeSuffixed m a ts cursor built (Ok None) = Awaits (Suffixes m a) (point ts cursor) (point ts cursor) (Gives a)
MaybeSuffixed m a ts cursor built (Ok (Some (x, next, may_open))) = IsSuffixed (Suffixes m a) ts cursor built x next may_open
MaybeSuffixed m a ts cursor built (Err e) = Fails (Suffixes m a) ts cursor e
