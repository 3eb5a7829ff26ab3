use Rattle.std.proofs.Common.{◌≤◌, length, ◌-◌}
use Rattle.ada_grammar.specs.Lexemes.{lexemes}
use Rattle.ada_grammar.specs.Phrases as phrases
use Rattle.ada_grammar.specs.Parts as parts
use Rattle.ada_grammar.specs.Parts.{mark, word, Gives, Call, Rest}
use Rattle.ada_grammar.specs.Standing.{Holds, Grows}
use Rattle.ada_grammar.specs.Reading.{Awaits, point}
use Rattle.ada_stmts.proofs.declarations.unit_names.Given as goal

abbrev pub invariant-loop-own : goal.invariant-loop-own
invariant-loop-own l = record {
  forward : l.fn.cursor.at ≤ l.next.at;
  ends : l.next.at ≤ length (lexemes l.tokens);
  grows : Grows l.fn.units l.units;
  awaits : (ds : phrases.Children) → Holds l.fn.units l.fn.into ds → (x : phrases.Children) × Holds l.units l.own x × Holds l.units l.fn.into ds × Awaits (parts.UnitNames l.fn.kind l.fn.span ds) (point (lexemes l.tokens) l.fn.cursor) (point (lexemes l.tokens) l.next) (Rest (parts.MoreUnitNames l.fn.kind l.fn.span x ds));
}

abbrev pub decreases-loop-own : goal.decreases-loop-own
decreases-loop-own l = length (lexemes l.tokens) - l.next.at
