use Rattle.std.proofs.Common.{length, ◌-◌, ◌<◌, ◌≤◌}
use Rattle.ada_grammar.specs.Parts as parts
use Rattle.ada_grammar.specs.Built.{Extends, phrase, trees}
use Rattle.ada_grammar.specs.Parts.{Rest}
use Rattle.ada_grammar.specs.Lexemes.{lexemes}
use Rattle.ada_grammar.specs.Reading.{Awaits, point}
use Rattle.ada_exprs.proofs.readers.read_points.Given as goal

abbrev pub invariant-loop-behind : goal.invariant-loop-behind
invariant-loop-behind l = record {
  within : l.left.node.0 < length (trees l.exprs);
  forward : l.fn.cursor.at ≤ l.next.at;
  ends : l.next.at ≤ length (lexemes l.tokens);
  extends : Extends l.fn.exprs l.exprs;
  awaits : Awaits (parts.Points (phrase (trees l.fn.exprs) l.fn.left)) (point (lexemes l.tokens) l.fn.cursor) (point (lexemes l.tokens) l.next) (Rest (parts.Points (phrase (trees l.exprs) l.left)));
}

abbrev pub decreases-loop-behind : goal.decreases-loop-behind
decreases-loop-behind l = length (lexemes l.tokens) - l.next.at
