-- What a reader finds that passes over what leaves no node.
use Rattle.std.proofs.Common.{IfOk, ◌≤◌, List, Result, Ok, Err, arith}
use Rattle.ada_tree.specs.declared.units.Units.{Units}
use Rattle.ada_grammar.specs.declared.children.Children as held
use Rattle.ada_grammar.specs.declared.tokens.Cursor.{Cursor}
use Rattle.ada_grammar.specs.declared.tokens.Fault.{Fault}
use Rattle.ada_grammar.specs.Lexemes.{Lexeme}
use Rattle.ada_grammar.specs.Phrases.{Children, gives}
use Rattle.ada_grammar.specs.Parts.{Part, Gives, Call}
use Rattle.ada_grammar.specs.Reading.{point, Awaits}
use Rattle.ada_grammar.specs.Standing.{Finds, Forth, Holds, Skips}
use Rattle.ada_grammar.proofs.Steps.{good, done}
use Rattle.ada_grammar.proofs.Answering.{refuses}
use Rattle.ada_grammar.proofs.Joining.{found}

pub passes_over : {part inner : Part} (ts : List Lexeme) (cursor middle : Cursor) (u : Units) (r : held.Children) (d : Children) (result : Result Cursor Fault)
    → Awaits part (point ts cursor) (point ts middle) (Call inner (λ x. Gives (gives d))) → cursor.at ≤ middle.at → good part inner (λ x. Gives (gives d)) → Holds u r d
    → Skips inner ts middle result → Finds part ts cursor u r result
passes_over ts cursor middle u r d (Ok next) s forward check holds i = found ts cursor next holds (omega (arith, forward, i.forward)) i.ends (done s i.reads check)
passes_over ts cursor middle u r d (Err e) s forward check holds i = refuses ts cursor middle e s check i

pub goes_over : (inner : Part) (ts : List Lexeme) (cursor : Cursor) (result : Result Cursor Fault) → Skips inner ts cursor result → IfOk result (λ next. Forth ts cursor next)
goes_over inner ts cursor (Ok next) i = record { forward = i.forward; ends = i.ends }
goes_over inner ts cursor (Err e) i = tt
