use Rattle.std.proofs.Common.{◌≤◌, length, ◌-◌}
use Rattle.ada_grammar.specs.Lexemes.{lexemes}
use Rattle.ada_grammar.specs.Phrases as phrases
use Rattle.ada_grammar.specs.Parts as parts
use Rattle.ada_grammar.specs.Parts.{mark, word, Gives, Call, Rest}
use Rattle.ada_grammar.specs.Standing.{Holds, Grows}
use Rattle.ada_grammar.specs.Reading.{Awaits, point}
use Rattle.ada_aspects.proofs.readers.elements.Given as goal

abbrev pub invariant-loop-behind_comma : goal.invariant-loop-behind_comma
invariant-loop-behind_comma l = record {
  forward : l.fn.cursor.at ≤ l.next.at;
  ends : l.next.at ≤ length (lexemes l.tokens);
  grows : Grows l.fn.units l.units;
  awaits : (ds : phrases.Children) → Holds l.fn.units l.fn.into ds → (x : phrases.Children) × Holds l.units l.into x × Awaits (parts.Elements l.fn.of ds) (point (lexemes l.tokens) l.fn.cursor) (point (lexemes l.tokens) l.next) (Rest (parts.MoreElements l.fn.of x));
}

abbrev pub decreases-loop-behind_comma : goal.decreases-loop-behind_comma
decreases-loop-behind_comma l = length (lexemes l.tokens) - l.next.at
