use Rattle.std.proofs.Common.{◌≤◌, length, ◌-◌}
use Rattle.ada_grammar.specs.Parts as parts
use Rattle.ada_grammar.specs.Parts.{Rest}
use Rattle.ada_grammar.specs.Lexemes.{lexemes}
use Rattle.ada_grammar.specs.Reading.{Awaits, point}
use Rattle.ada_aspects.proofs.readers.balanced.Given as goal

abbrev pub invariant-loop-behind : goal.invariant-loop-behind
invariant-loop-behind l = record {
  forward : l.fn.cursor.at ≤ l.next.at;
  ends : l.next.at ≤ length (lexemes l.tokens);
  depth : l.depth ≤ l.next.at;
  awaits : Awaits (parts.Balanced 0) (point (lexemes l.tokens) l.fn.cursor) (point (lexemes l.tokens) l.next) (Rest (parts.Balanced l.depth));
}

abbrev pub decreases-loop-behind : goal.decreases-loop-behind
decreases-loop-behind l = length (lexemes l.tokens) - l.next.at
