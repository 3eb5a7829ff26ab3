-- What the parser answers.
use Rattle.std.specs.Prelude.{◌≡◌, ℕ, zero, suc, ◌≤◌, length, drop, List, [], ◌∷◌, ◌++◌, Some, Result, Ok, Err}
use Rattle.spark_messages.specs.declared.messages.Message.{Message}
use Rattle.ada_tree.specs.declared.token.Tokens.{Tokens}
use Rattle.ada_tree.specs.declared.units.Units.{Units}
use Rattle.ada_tree.specs.Tree.{IsOrdered}
use Rattle.ada_grammar.specs.declared.tokens.Nesting.{Nesting}
use Rattle.ada_grammar.specs.Lexemes.{Lexeme, lexemes}
use Rattle.ada_grammar.specs.Limits.{outermost, walk}
use Rattle.ada_grammar.specs.Phrases.{Phrase, Tree}
use Rattle.ada_grammar.specs.Parts.{File}
use Rattle.ada_grammar.specs.Spelling.{Spells}
use Rattle.ada_grammar.specs.Answer.{IsLimit, Longest}
use Rattle.ada_grammar.specs.Refusals.{syntax_message}
use Rattle.ada_grammar.specs.Standing.{Ref, UnitRef, Stands}
use Rattle.spark_parser.specs.declared.calls.ParseFault.{ParseFault}
use Rattle.spark_parser.specs.declared.calls.ParseFault.TheVariants as refusals

-- the first so many units
abbrev pub unit_refs : ℕ → List Ref
unit_refs zero = []
unit_refs (suc n) = unit_refs n ++ UnitRef n ∷ []

-- the tokens are a file of the grammar, of these units and in one way alone, and none passes a limit of nesting
pub record IsFile (tokens : Tokens) (units : List Tree) : Type 0 where
  pub phrase : Phrase
  pub gives : units ≡ phrase.children.units
  pub spells : Spells File phrase (lexemes tokens)
  pub one : (y : Phrase) → Spells File y (lexemes tokens) → y ≡ phrase
  pub ends : Nesting
  pub within : walk (outermost 0) (lexemes tokens) ≡ Some ends

-- The tokens are no file, and those before a place are the longest front with which a file begins; they pass no limit. The
-- message is that of the token there, or that of the end where all tokens are such a front.
pub record IsNoFile (tokens : Tokens) (m : Message) : Type 0 where
  pub none : (y : Phrase) → Spells File y (lexemes tokens) → ⊥
  pub place : ℕ
  pub ends : place ≤ length tokens.list
  pub word : List Lexeme
  pub front : Longest File (outermost 0) (lexemes tokens) word (drop place (lexemes tokens))
  pub message : m ≡ syntax_message tokens place

-- the refusal of a file: S01 or U01, or X02 at the first token that passes a limit, with which some file goes on
pub data IsRefused (tokens : Tokens) (m : Message) : Type 0 where
  ForSyntax : IsNoFile tokens m → IsRefused tokens m
  ForLimit : IsLimit File (outermost 0) tokens 0 m → IsRefused tokens m

-- what is said of each file: the units of those that are read, and the refusals of the others, in the order of the files
pub data Told : List Tokens → List Tree → List Message → Type 0 where
  nothing : Told [] [] []
  reads : {tokens : Tokens} {units more : List Tree} {all : List Tokens} {ms : List Message}
      → IsFile tokens units → Told all more ms → Told (tokens ∷ all) (units ++ more) ms
  refuses : {tokens : Tokens} {m : Message} {units : List Tree} {all : List Tokens} {ms : List Message}
      → IsRefused tokens m → Told all units ms → Told (tokens ∷ all) units (m ∷ ms)

-- each file was read, the units are those of all of them, and all nodes are ordered, also those that no unit has
pub record AreRead (all : List Tokens) (u : Units) : Type 0 where
  pub units : List Tree
  pub told : Told all units []
  pub stands : Stands u (unit_refs (length u.units)) units
  pub ordered : IsOrdered u

-- some file was refused, and these are the refusals of all that were
pub record AreRefused (all : List Tokens) (ms : List Message) : Type 0 where
  pub units : List Tree
  pub told : Told all units ms
  pub some : (ms ≡ []) → ⊥

-- what the parser answers; of want of memory nothing is said
abbrev pub IsAnswer : List Tokens → Result Units ParseFault → Type 0
IsAnswer all (Ok u) = AreRead all u
IsAnswer all (Err (refusals.Refused ms)) = AreRefused all ms
IsAnswer all (Err refusals.NoMemory) = Unit {0}
