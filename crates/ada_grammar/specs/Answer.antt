-- What a reader answers, in plain words.
use Rattle.std.specs.Prelude.{◌≡◌, ◌≤◌, ◌<◌, ℕ, List, [], ◌∷◌, ◌++◌, length, drop, map, Some, Result, Ok, Err}
use Rattle.spark_base.specs.declared.numbers.AspectNo.{AspectNo}
use Rattle.spark_base.specs.declared.numbers.DeclNo.{DeclNo}
use Rattle.spark_base.specs.declared.numbers.ExprNo.{ExprNo}
use Rattle.spark_base.specs.declared.numbers.StmtNo.{StmtNo}
use Rattle.spark_messages.specs.declared.messages.Message.{Message}
use Rattle.spark_messages.specs.declared.messages.PhaseFault.{PhaseFault}
use Rattle.spark_messages.specs.declared.messages.PhaseFault.TheVariants as faults
use Rattle.ada_tree.specs.declared.token.Tokens.{Tokens}
use Rattle.ada_tree.specs.declared.units.Units.{Units}
use Rattle.ada_grammar.specs.declared.tokens.Nesting.{Nesting}
use Rattle.ada_grammar.specs.Lexemes.{Lexeme, lexemes}
use Rattle.ada_grammar.specs.Limits.{walk}
use Rattle.ada_grammar.specs.Phrases.{Tree, Phrase, Children, gives}
use Rattle.ada_grammar.specs.Built.{tree_at}
use Rattle.ada_grammar.specs.Parts.{Part}
use Rattle.ada_grammar.specs.Spelling.{Spells}
use Rattle.ada_grammar.specs.Fronts.{Viable, Bars}
use Rattle.ada_grammar.specs.Refusals.{syntax_message, limit_message}
use Rattle.ada_grammar.specs.Standing.{Stands, StmtRef, DeclRef, AspectRef}

-- of ts, u is the longest front with which some sentence of the part begins, and r is what is left; no token of u passes
-- a limit
pub record Longest (part : Part) (level : Nesting) (ts u r : List Lexeme) : Type 0 where
  pub splits : ts ≡ u ++ r
  pub viable : Viable part u
  pub longest : (t : Lexeme) (further : List Lexeme) → r ≡ t ∷ further → Viable part (u ++ t ∷ []) → ⊥
  pub ends : Nesting
  pub within : walk level u ≡ Some ends

-- that front is a sentence of this phrase and of no other
pub record IsPhrase (part : Part) (level : Nesting) (ts r : List Lexeme) (x : Phrase) : Type 0 where
  pub word : List Lexeme
  pub front : Longest part level ts word r
  pub spells : Spells part x word
  pub one : (y : Phrase) → Spells part y word → y ≡ x

-- that front is a sentence, with this tree; it has one phrase
pub record IsRead (part : Part) (level : Nesting) (ts r : List Lexeme) (x : Tree) : Type 0 where
  pub word : List Lexeme
  pub front : Longest part level ts word r
  pub phrase : Phrase
  pub tree : phrase.tree ≡ x
  pub spells : Spells part phrase word
  pub one : (y : Phrase) → Spells part y word → y ≡ phrase

-- that front is no sentence
pub record IsRefused (part : Part) (level : Nesting) (ts r : List Lexeme) : Type 0 where
  pub word : List Lexeme
  pub front : Longest part level ts word r
  pub none : (y : Phrase) → Spells part y word → ⊥

-- the part was read: its node, and the place behind it
pub record HasRead (part : Part) (level : Nesting) (tokens : Tokens) (at : ℕ) (built : List Tree) (n : ExprNo) (next : ℕ) : Type 0 where
  pub there : n.0 < length built
  pub forward : at ≤ next
  pub ends : next ≤ length tokens.list
  pub reads : IsRead part level (drop at (lexemes tokens)) (drop next (lexemes tokens)) (tree_at built n)

-- the message is that of the token where the part ends that no sentence goes on with
pub record IsSyntax (part : Part) (level : Nesting) (tokens : Tokens) (at : ℕ) (m : Message) : Type 0 where
  pub place : ℕ
  pub ends : place ≤ length tokens.list
  pub refuses : IsRefused part level (drop at (lexemes tokens)) (drop place (lexemes tokens))
  pub message : m ≡ syntax_message tokens place

-- the message is that of the first token that passes a limit, with which some sentence goes on
pub record IsLimit (part : Part) (level : Nesting) (tokens : Tokens) (at : ℕ) (m : Message) : Type 0 where
  pub place : ℕ
  pub ends : place < length tokens.list
  pub bars : Bars part (record { rest = drop at (lexemes tokens); level = level }) (drop place (lexemes tokens))
  pub message : m ≡ limit_message tokens place

-- S01 or U01, or X02
pub data Refuses (part : Part) (level : Nesting) (tokens : Tokens) (at : ℕ) (m : Message) : Type 0 where
  ForSyntax : IsSyntax part level tokens at m → Refuses part level tokens at m
  ForLimit : IsLimit part level tokens at m → Refuses part level tokens at m

-- of want of memory nothing is said
abbrev pub IsFault : Part → Nesting → Tokens → ℕ → PhaseFault → Type 0
IsFault part level tokens at faults.NoMemory = Unit {0}
IsFault part level tokens at (faults.Refused m) = Refuses part level tokens at m

-- what a call answers that reads a part of the grammar at a place
abbrev pub IsAnswer : Part → Nesting → Tokens → ℕ → List Tree → Result (ExprNo × ℕ) PhaseFault → Type 0
IsAnswer part level tokens at built (Ok (n, next)) = HasRead part level tokens at built n next
IsAnswer part level tokens at built (Err f) = IsFault part level tokens at f

-- the part was read as aspects: their numbers, at which their trees stand, and the place behind them
pub record HasAspects (part : Part) (level : Nesting) (tokens : Tokens) (at : ℕ) (u : Units) (list : List AspectNo) (next : ℕ)
    : Type 0 where
  pub forward : at ≤ next
  pub ends : next ≤ length tokens.list
  pub children : Children
  pub stands : Stands u (map AspectRef list) children.aspects
  pub reads : IsPhrase part level (drop at (lexemes tokens)) (drop next (lexemes tokens)) (gives children)

-- the same of declarations
pub record HasDeclarations (part : Part) (level : Nesting) (tokens : Tokens) (at : ℕ) (u : Units) (list : List DeclNo) (next : ℕ)
    : Type 0 where
  pub forward : at ≤ next
  pub ends : next ≤ length tokens.list
  pub children : Children
  pub stands : Stands u (map DeclRef list) children.decls
  pub reads : IsPhrase part level (drop at (lexemes tokens)) (drop next (lexemes tokens)) (gives children)

-- the same of one statement, that of a sequence
pub record HasSequence (part : Part) (level : Nesting) (tokens : Tokens) (at : ℕ) (u : Units) (n : StmtNo) (next : ℕ) : Type 0 where
  pub forward : at ≤ next
  pub ends : next ≤ length tokens.list
  pub children : Children
  pub stands : Stands u (StmtRef n ∷ []) children.stmts
  pub reads : IsPhrase part level (drop at (lexemes tokens)) (drop next (lexemes tokens)) (gives children)

-- what calls answer that read these
abbrev pub AnswersAspects : Part → Nesting → Tokens → ℕ → Units → Result (List AspectNo × ℕ) PhaseFault → Type 0
AnswersAspects part level tokens at u (Ok (list, next)) = HasAspects part level tokens at u list next
AnswersAspects part level tokens at u (Err f) = IsFault part level tokens at f

abbrev pub AnswersDeclarations : Part → Nesting → Tokens → ℕ → Units → Result (List DeclNo × ℕ) PhaseFault → Type 0
AnswersDeclarations part level tokens at u (Ok (list, next)) = HasDeclarations part level tokens at u list next
AnswersDeclarations part level tokens at u (Err f) = IsFault part level tokens at f

abbrev pub AnswersSequence : Part → Nesting → Tokens → ℕ → Units → Result (StmtNo × ℕ) PhaseFault → Type 0
AnswersSequence part level tokens at u (Ok (n, next)) = HasSequence part level tokens at u n next
AnswersSequence part level tokens at u (Err f) = IsFault part level tokens at f
