use Rattle.std.proofs.Common.{◌≤◌, length, ◌-◌}
use Rattle.ada_grammar.specs.Lexemes.{lexeme, lexemes}
use Rattle.ada_grammar.specs.Phrases as phrases
use Rattle.ada_grammar.specs.Parts as parts
use Rattle.ada_grammar.specs.Parts.{mark, word, Gives, Call, Rest}
use Rattle.ada_grammar.specs.Standing.{Holds, Grows}
use Rattle.ada_grammar.specs.Reading.{Awaits, point}
use Rattle.ada_aspects.proofs.readers.items_from.Given as goal

abbrev pub invariant-loop-items : goal.invariant-loop-items
invariant-loop-items l = record {
  forward : l.fn.cursor.at ≤ l.next.at;
  ends : l.next.at ≤ length (lexemes l.tokens);
  grows : Grows l.fn.units l.units;
  awaits : (ds : phrases.Children) → Holds l.fn.units l.fn.into ds → (x : phrases.Children) × Holds l.units l.items x × Holds l.units l.fn.into ds × Awaits (parts.ItemsFrom l.fn.span (lexeme l.fn.tokens.source l.fn.name) ds) (point (lexemes l.tokens) l.fn.cursor) (point (lexemes l.tokens) l.next) (Rest (parts.MoreItems l.fn.span x ds));
}

abbrev pub decreases-loop-items : goal.decreases-loop-items
decreases-loop-items l = length (lexemes l.tokens) - l.next.at
