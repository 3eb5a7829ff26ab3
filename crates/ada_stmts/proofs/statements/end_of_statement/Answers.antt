use Rattle.std.proofs.Common.{refl, arith}
use Rattle.ada_tree.specs.declared.token.Mark.TheVariants as marks
use Rattle.ada_grammar.specs.declared.tokens.Class.TheVariants as classes
use Rattle.ada_grammar.specs.Lexemes.{lexeme, lexemes}
use Rattle.ada_grammar.specs.Phrases as phrases
use Rattle.ada_grammar.specs.Parts as parts
use Rattle.ada_grammar.specs.Parts.{mark, word, Gives, Call, Rest}
use Rattle.ada_grammar.proofs.Steps.{start, seen, unseen}
use Rattle.ada_grammar.proofs.Answering.{passes_here, misses_here}
use Rattle.ada_grammar.proofs.Joining.{holds_as, absent, present, fault_found, found}
use Rattle.ada_grammar.proofs.Standing.{grows_on, holds_on}
use Rattle.ada_stmts.proofs.statements.end_of_statement.Goals as goal

pub returns-in_err-name-clause-reads : goal.returns-in_err-name-clause-reads
returns-in_err-name-clause-reads c = λ os ds ho hd. fault_found (parts.EndOfStatement c.args.kind c.args.span os ds) (lexemes c.args.tokens.now) c.args.cursor _ _ _ _ (passes_here (lexemes c.args.tokens.now) c.args.cursor c.args.cursor classes.Word _ (start (parts.EndOfStatement c.args.kind c.args.span os ds) _) (λ t. refl) c.in_err-name.ensures) c.from_residual.ensures.1

pub returns-in_err-behind_end-clause-reads : goal.returns-in_err-behind_end-clause-reads
returns-in_err-behind_end-clause-reads c = λ os ds ho hd. fault_found (parts.EndOfStatement c.args.kind c.args.span os ds) (lexemes c.args.tokens.now) c.args.cursor _ _ _ _ (misses_here (lexemes c.args.tokens.now) c.args.cursor c.in-Some.behind_name (mark marks.Semicolon) _ (omega (arith, (present classes.Word (lexeme c.args.tokens.now.source) (lexemes c.args.tokens.now) c.args.cursor c.in_ok-name.ensures c.in-Some.is).place, (present classes.Word (lexeme c.args.tokens.now.source) (lexemes c.args.tokens.now) c.args.cursor c.in_ok-name.ensures c.in-Some.is).within)) (seen (start (parts.EndOfStatement c.args.kind c.args.span os ds) _) (present classes.Word (lexeme c.args.tokens.now.source) (lexemes c.args.tokens.now) c.args.cursor c.in_ok-name.ensures c.in-Some.is).takes refl) refl (λ t. refl) c.in_err-behind_end.ensures) c.from_residual-in_err-behind_end.ensures.1

pub returns-in_err-add_statement-clause-grows : goal.returns-in_err-add_statement-clause-grows
returns-in_err-add_statement-clause-grows c = (grows_on c.in_ok-add_end_name.ensures.grows c.in_err-add_statement.ensures.grows)

pub returns-in-Some-clause-reads : goal.returns-in-Some-clause-reads
returns-in-Some-clause-reads c = λ os ds ho hd. let b1 = c.in_ok-add_end_name.ensures.builds _ ho in found (lexemes c.args.tokens.now) c.args.cursor c.in_ok-behind_end.behind_end (holds_as (λ k. phrases.statement k c.args.span (phrases.with_expr os (phrases.end_name (lexeme c.args.tokens.now.source c.in-Some.name))) ds) c.named_end-kind.ensures (c.in_ok-add_statement.ensures.builds _ _ b1 (holds_on b1.ordered c.in_ok-add_end_name.ensures.grows hd))) (omega (arith, (present classes.Word (lexeme c.args.tokens.now.source) (lexemes c.args.tokens.now) c.args.cursor c.in_ok-name.ensures c.in-Some.is).place, c.in_ok-behind_end.ensures.place)) (omega (arith, c.in_ok-behind_end.ensures.place, c.in_ok-behind_end.ensures.within)) (seen (seen (start (parts.EndOfStatement c.args.kind c.args.span os ds) _) (present classes.Word (lexeme c.args.tokens.now.source) (lexemes c.args.tokens.now) c.args.cursor c.in_ok-name.ensures c.in-Some.is).takes refl) c.in_ok-behind_end.ensures.takes refl)

pub returns-in-Some-clause-goes : goal.returns-in-Some-clause-goes
returns-in-Some-clause-goes c = record { forward = omega (arith, (present classes.Word (lexeme c.args.tokens.now.source) (lexemes c.args.tokens.now) c.args.cursor c.in_ok-name.ensures c.in-Some.is).place, c.in_ok-behind_end.ensures.place); ends = (omega (arith, c.in_ok-behind_end.ensures.place, c.in_ok-behind_end.ensures.within)) }

pub returns-in-Some-clause-grows : goal.returns-in-Some-clause-grows
returns-in-Some-clause-grows c = (grows_on c.in_ok-add_end_name.ensures.grows c.in_ok-add_statement.ensures.grows)

pub returns-in_err-behind_end_2-clause-reads : goal.returns-in_err-behind_end_2-clause-reads
returns-in_err-behind_end_2-clause-reads c = λ os ds ho hd. fault_found (parts.EndOfStatement c.args.kind c.args.span os ds) (lexemes c.args.tokens.now) c.args.cursor _ _ _ _ (misses_here (lexemes c.args.tokens.now) c.args.cursor c.args.cursor (mark marks.Semicolon) _ c.requires.at (unseen (start (parts.EndOfStatement c.args.kind c.args.span os ds) _) (absent classes.Word (lexeme c.args.tokens.now.source) (lexemes c.args.tokens.now) c.args.cursor c.in_ok-name.ensures c.in_default.is)) refl (λ t. refl) c.in_err-behind_end_2.ensures) c.from_residual-in_err-behind_end_2.ensures.1

pub returns-clause-reads : goal.returns-clause-reads
returns-clause-reads c = λ os ds ho hd. found (lexemes c.args.tokens.now) c.args.cursor c.in_ok-behind_end_2.behind_end_2 (c.in_ok-add_statement-2.ensures.builds _ _ ho hd) (omega (arith, c.in_ok-behind_end_2.ensures.place)) (omega (arith, c.in_ok-behind_end_2.ensures.place, c.in_ok-behind_end_2.ensures.within)) (seen (unseen (start (parts.EndOfStatement c.args.kind c.args.span os ds) _) (absent classes.Word (lexeme c.args.tokens.now.source) (lexemes c.args.tokens.now) c.args.cursor c.in_ok-name.ensures c.in_default.is)) c.in_ok-behind_end_2.ensures.takes refl)

pub returns-clause-goes : goal.returns-clause-goes
returns-clause-goes c = record { forward = omega (arith, c.in_ok-behind_end_2.ensures.place); ends = (omega (arith, c.in_ok-behind_end_2.ensures.place, c.in_ok-behind_end_2.ensures.within)) }
