use Rattle.std.proofs.Common.{◌≤◌, length, ◌-◌, map, ◌∷◌, []}
use Rattle.ada_grammar.specs.Parts as parts
use Rattle.ada_grammar.specs.Parts.{Rest}
use Rattle.ada_grammar.specs.Phrases as phrases
use Rattle.ada_grammar.specs.Lexemes.{lexeme, lexemes}
use Rattle.ada_grammar.specs.Reading.{Awaits, point}
use Rattle.ada_stmts.proofs.declarations.declared_names.Given as goal

abbrev pub invariant-loop-names : goal.invariant-loop-names
invariant-loop-names l = record {
  forward : l.fn.cursor.at ≤ l.next.at;
  ends : l.next.at ≤ length (lexemes l.tokens);
  awaits : (ds : phrases.Children) → Awaits (parts.Names l.fn.what (lexeme l.fn.tokens.source l.fn.first ∷ []) ds) (point (lexemes l.tokens) l.fn.cursor) (point (lexemes l.tokens) l.next) (Rest (parts.Names l.fn.what (map (lexeme l.fn.tokens.source) l.names) ds));
}

abbrev pub decreases-loop-names : goal.decreases-loop-names
decreases-loop-names l = length (lexemes l.tokens) - l.next.at
