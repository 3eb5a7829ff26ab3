use Rattle.std.proofs.Common.{◌≤◌, length, ◌-◌, ◌+◌, ◌*◌}
use Rattle.ada_grammar.specs.Lexemes.{lexeme, lexemes}
use Rattle.ada_grammar.specs.Phrases as phrases
use Rattle.ada_grammar.specs.Parts as parts
use Rattle.ada_grammar.specs.Parts.{mark, word, Gives, Call, Rest}
use Rattle.ada_grammar.specs.Standing.{Holds, Grows}
use Rattle.ada_grammar.specs.Reading.{Awaits, point}
use Rattle.ada_stmts.proofs.statements.+stmts.Given as goal

abbrev pub invariant-statements-loop-own : goal.invariant-statements-loop-own
invariant-statements-loop-own l = record {
  forward : l.fn.cursor.at ≤ l.next.at;
  ends : l.next.at ≤ length (lexemes l.tokens);
  grows : Grows l.fn.units l.units;
  awaits : (ds : phrases.Children) → Holds l.fn.units l.fn.into ds → (x : phrases.Children) × Holds l.units l.own x × Holds l.units l.fn.into ds × Awaits (parts.Statements ds) (point (lexemes l.tokens) l.fn.cursor) (point (lexemes l.tokens) l.next) (Rest (parts.MoreStatements l.first.span x ds));
}

abbrev pub decreases-statements-loop-own : goal.decreases-statements-loop-own
decreases-statements-loop-own l = length (lexemes l.tokens) - l.next.at

abbrev pub decreases-statements : goal.decreases-statements
decreases-statements l = 16 * (length (lexemes l.tokens.now) - l.cursor.at) + 0

abbrev pub decreases-statement : goal.decreases-statement
decreases-statement l = 16 * (length (lexemes l.tokens.now) - l.cursor.at) + 4

abbrev pub decreases-named_statement : goal.decreases-named_statement
decreases-named_statement l = 16 * (length (lexemes l.tokens.now) - l.cursor.at) + 2

abbrev pub decreases-labelled : goal.decreases-labelled
decreases-labelled l = 16 * (length (lexemes l.tokens.now) - l.cursor.at) + 3

abbrev pub invariant-if_statement-loop-own : goal.invariant-if_statement-loop-own
invariant-if_statement-loop-own l = record {
  forward : l.fn.cursor.at ≤ l.next.at;
  ends : l.next.at ≤ length (lexemes l.tokens);
  grows : Grows l.fn.units l.units;
  awaits : (ds : phrases.Children) → Holds l.fn.units l.fn.into ds → (x : phrases.Children) × Holds l.units l.own x × Holds l.units l.fn.into ds × Awaits (parts.If (lexeme l.fn.tokens.source l.fn.first) ds) (point (lexemes l.tokens) l.fn.cursor) (point (lexemes l.tokens) l.next) (Rest (parts.MoreArms l.fn.first.span x ds));
}

abbrev pub decreases-if_statement-loop-own : goal.decreases-if_statement-loop-own
decreases-if_statement-loop-own l = length (lexemes l.tokens) - l.next.at

abbrev pub decreases-if_statement : goal.decreases-if_statement
decreases-if_statement l = 16 * (length (lexemes l.tokens.now) - l.cursor.at) + 1

abbrev pub invariant-case_statement-loop-own : goal.invariant-case_statement-loop-own
invariant-case_statement-loop-own l = record {
  forward : l.fn.cursor.at ≤ l.next.at;
  ends : l.next.at ≤ length (lexemes l.tokens);
  grows : Grows l.fn.units l.units;
  awaits : (ds : phrases.Children) → Holds l.fn.units l.fn.into ds → (x : phrases.Children) × Holds l.units l.own x × Holds l.units l.fn.into ds × Awaits (parts.Case (lexeme l.fn.tokens.source l.fn.first) ds) (point (lexemes l.tokens) l.fn.cursor) (point (lexemes l.tokens) l.next) (Rest (parts.MoreAlternatives l.fn.first.span x ds));
}

abbrev pub decreases-case_statement-loop-own : goal.decreases-case_statement-loop-own
decreases-case_statement-loop-own l = length (lexemes l.tokens) - l.next.at

abbrev pub decreases-case_statement : goal.decreases-case_statement
decreases-case_statement l = 16 * (length (lexemes l.tokens.now) - l.cursor.at) + 1

abbrev pub invariant-alternative-loop-own : goal.invariant-alternative-loop-own
invariant-alternative-loop-own l = record {
  forward : l.fn.cursor.at ≤ l.next.at;
  ends : l.next.at ≤ length (lexemes l.tokens);
  grows : Grows l.fn.units l.units;
  awaits : (ds : phrases.Children) → Holds l.fn.units l.fn.into ds → (x : phrases.Children) × Holds l.units l.own x × Holds l.units l.fn.into ds × Awaits (parts.Alternative l.fn.span ds) (point (lexemes l.tokens) l.fn.cursor) (point (lexemes l.tokens) l.next) (Rest (parts.MoreChoices l.fn.span x ds));
}

abbrev pub decreases-alternative-loop-own : goal.decreases-alternative-loop-own
decreases-alternative-loop-own l = length (lexemes l.tokens) - l.next.at

abbrev pub decreases-alternative : goal.decreases-alternative
decreases-alternative l = 16 * (length (lexemes l.tokens.now) - l.cursor.at) + 1

abbrev pub decreases-while_loop : goal.decreases-while_loop
decreases-while_loop l = 16 * (length (lexemes l.tokens.now) - l.cursor.at) + 2

abbrev pub decreases-for_loop : goal.decreases-for_loop
decreases-for_loop l = 16 * (length (lexemes l.tokens.now) - l.cursor.at) + 2

abbrev pub decreases-for_range : goal.decreases-for_range
decreases-for_range l = 16 * (length (lexemes l.tokens.now) - l.cursor.at) + 2

abbrev pub decreases-loop_body : goal.decreases-loop_body
decreases-loop_body l = 16 * (length (lexemes l.tokens.now) - l.cursor.at) + 1

abbrev pub decreases-declare_block : goal.decreases-declare_block
decreases-declare_block l = 16 * (length (lexemes l.tokens.now) - l.cursor.at) + 2

abbrev pub decreases-block_body : goal.decreases-block_body
decreases-block_body l = 16 * (length (lexemes l.tokens.now) - l.cursor.at) + 1
