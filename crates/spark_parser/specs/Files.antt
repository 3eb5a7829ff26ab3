-- What the readers of units and files find.
use Rattle.std.specs.Prelude.{◌≡◌, ℕ, ◌≤◌, length, List, [], ◌∷◌, ◌++◌, Result, Ok, Err}
use Rattle.spark_messages.specs.declared.messages.Message.{Message}
use Rattle.spark_messages.specs.declared.messages.PhaseFault.{PhaseFault}
use Rattle.spark_messages.specs.declared.messages.PhaseFault.TheVariants as faults
use Rattle.ada_tree.specs.declared.token.Tokens.{Tokens}
use Rattle.ada_tree.specs.declared.units.Units.{Units}
use Rattle.ada_tree.specs.Tree.{IsOrdered}
use Rattle.ada_grammar.specs.declared.tokens.Cursor.{Cursor}
use Rattle.ada_grammar.specs.declared.tokens.Fault.{Fault}
use Rattle.ada_grammar.specs.Lexemes.{Lexeme}
use Rattle.ada_grammar.specs.Phrases.{Tree, Children, gives, with_unit}
use Rattle.ada_grammar.specs.Parts.{Part, File, InFile, Rest}
use Rattle.ada_grammar.specs.Reading.{point, Awaits, Reads, Fails}
use Rattle.ada_grammar.specs.Standing.{UnitRef, Holds, Stands}
use Rattle.spark_parser.specs.declared.files.Progress.{Progress}
use Rattle.spark_parser.specs.Parsed.{IsFile, IsRefused, Told, unit_refs}

-- the tokens from the cursor to the next are read as a unit, which stands at this number, and all nodes are ordered
pub record FoundUnit (part : Part) (ts : List Lexeme) (cursor : Cursor) (u : Units) (n : ℕ) (d : Children) (next : Cursor) : Type 0 where
  pub tree : Tree
  pub stands : Stands u (UnitRef n ∷ []) (tree ∷ [])
  pub ordered : IsOrdered u
  pub forward : cursor.at ≤ next.at
  pub ends : next.at ≤ length ts
  pub reads : Reads part (point ts cursor) (point ts next) (gives (with_unit d tree))

-- what a reader of a unit answers at the cursor
abbrev pub FindsUnit : Part → List Lexeme → Cursor → Units → ℕ → Children → Result Cursor Fault → Type 0
FindsUnit part ts cursor u n d (Ok next) = FoundUnit part ts cursor u n d next
FindsUnit part ts cursor u n d (Err e) = Fails part ts cursor e

-- these trees are those of the units that were added behind all that were there
abbrev pub AddsUnits : Units → Units → List Tree → Type 0
AddsUnits old new ts =
    (before : List Tree) → Stands old (unit_refs (length old.units)) before → Stands new (unit_refs (length new.units)) (before ++ ts)

-- From the start on, a file was read as far as this, and units were added.
pub record SoFar (ts : List Lexeme) (start : Cursor) (old now : Units) (p : Progress) : Type 0 where
  pub own : Children
  pub read : Children
  pub holds : Holds now p.context own
  pub adds : AddsUnits old now read.units
  pub awaits : Awaits File (point ts start) (point ts p.next) (Rest (InFile p.ends own read))

-- what a reader of one item of a file answers
abbrev pub FindsItem : List Lexeme → Cursor → Units → Units → Result Progress Fault → Type 0
FindsItem ts start old now (Ok p) = SoFar ts start old now p
FindsItem ts start old now (Err e) = Fails File ts start e

-- from the start to the next cursor a file was read, of which units were added, and all nodes are ordered
pub record FoundFile (ts : List Lexeme) (start : Cursor) (old now : Units) (next : Cursor) : Type 0 where
  pub read : Children
  pub adds : AddsUnits old now read.units
  pub ordered : IsOrdered now
  pub ends : next.at ≤ length ts
  pub reads : Reads File (point ts start) (point ts next) (gives read)

abbrev pub FindsFile : List Lexeme → Cursor → Units → Units → Result Cursor Fault → Type 0
FindsFile ts start old now (Ok next) = FoundFile ts start old now next
FindsFile ts start old now (Err e) = Fails File ts start e

-- the tokens are a file, whose units were added, and all nodes are ordered
pub record HasFile (tokens : Tokens) (old now : Units) : Type 0 where
  pub units : List Tree
  pub is : IsFile tokens units
  pub adds : AddsUnits old now units
  pub ordered : IsOrdered now

-- what is told of a file
abbrev pub TellsFile : Tokens → Units → Units → Result (Unit {0}) PhaseFault → Type 0
TellsFile tokens old now (Ok done) = HasFile tokens old now
TellsFile tokens old now (Err (faults.Refused m)) = IsRefused tokens m
TellsFile tokens old now (Err faults.NoMemory) = Unit {0}

-- a file's units were added, or its refusal; what nodes there are is ordered
pub data Adds (tokens : Tokens) (old now : Units) (before after : List Message) : Type 0 where
  accepted : HasFile tokens old now → after ≡ before → Adds tokens old now before after
  refused : {m : Message} → IsRefused tokens m → IsOrdered now → after ≡ before ++ m ∷ [] → Adds tokens old now before after

-- the refusals of these files; where there are none, their units stand there, in ordered nodes
pub record AreSoFar (all : List Tokens) (u : Units) (ms : List Message) : Type 0 where
  pub units : List Tree
  pub told : Told all units ms
  pub ordered : IsOrdered u
  pub stands : ms ≡ [] → Stands u (unit_refs (length u.units)) units
