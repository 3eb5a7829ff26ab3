use Rattle.std.proofs.Common.{refl, arith}
use Rattle.ada_tree.specs.declared.token.Mark.TheVariants as marks
use Rattle.ada_tree.specs.declared.words.Reserved.TheVariants as words
use Rattle.ada_tree.specs.declared.forms.StatementForm.TheVariants as statements
use Rattle.ada_grammar.specs.Lexemes.{lexeme, lexemes}
use Rattle.ada_grammar.specs.Parts as parts
use Rattle.ada_grammar.specs.Parts.{mark, word, Gives, Call, Rest}
use Rattle.ada_grammar.proofs.Steps.{start, seen, done}
use Rattle.ada_grammar.proofs.Answering.{misses_here, refuses}
use Rattle.ada_grammar.proofs.Joining.{fault_found, found}
use Rattle.ada_grammar.proofs.Standing.{grows_on, holds_on}
use Rattle.ada_stmts.proofs.statements.delay_statement.Goals as goal

pub returns-in_err-behind_keyword-clause-reads : goal.returns-in_err-behind_keyword-clause-reads
returns-in_err-behind_keyword-clause-reads c = λ ds hd. fault_found (parts.Statement statements.Delay (lexeme c.args.tokens.now.source c.args.first) ds) (lexemes c.args.tokens.now) c.args.cursor _ _ _ _ (misses_here (lexemes c.args.tokens.now) c.args.cursor c.args.cursor (word words.Until) _ c.requires.at (start (parts.Statement statements.Delay (lexeme c.args.tokens.now.source c.args.first) ds) _) refl (λ t. refl) c.in_err-behind_keyword.ensures) c.from_residual.ensures.1

pub returns-in_err-behind_value-clause-reads : goal.returns-in_err-behind_value-clause-reads
returns-in_err-behind_value-clause-reads c = λ ds hd. fault_found (parts.Statement statements.Delay (lexeme c.args.tokens.now.source c.args.first) ds) (lexemes c.args.tokens.now) c.args.cursor _ _ _ _ (refuses (lexemes c.args.tokens.now) c.args.cursor c.in_ok-behind_keyword.behind_keyword _ (seen (start (parts.Statement statements.Delay (lexeme c.args.tokens.now.source c.args.first) ds) _) c.in_ok-behind_keyword.ensures.takes refl) (λ b. refl) (c.in_err-behind_value.ensures.reads _ (c.new-own.ensures _ hd.ordered))) c.from_residual-in_err-behind_value.ensures.1

pub returns-in_err-behind_end-clause-reads : goal.returns-in_err-behind_end-clause-reads
returns-in_err-behind_end-clause-reads c = λ ds hd. let f1 = c.in_ok-behind_value.ensures.reads _ (c.new-own.ensures _ hd.ordered) in fault_found (parts.Statement statements.Delay (lexeme c.args.tokens.now.source c.args.first) ds) (lexemes c.args.tokens.now) c.args.cursor _ _ _ _ (misses_here (lexemes c.args.tokens.now) c.args.cursor c.in_ok-behind_value.behind_value (mark marks.Semicolon) _ c.in_ok-behind_value.ensures.goes.ends (done (seen (start (parts.Statement statements.Delay (lexeme c.args.tokens.now.source c.args.first) ds) _) c.in_ok-behind_keyword.ensures.takes refl) f1.reads (λ b. refl)) refl (λ t. refl) c.in_err-behind_end.ensures) c.from_residual-in_err-behind_end.ensures.1

pub returns-in_err-add_statement-clause-grows : goal.returns-in_err-add_statement-clause-grows
returns-in_err-add_statement-clause-grows c = (grows_on c.in_ok-behind_value.ensures.grows c.in_err-add_statement.ensures.grows)

pub returns-clause-reads : goal.returns-clause-reads
returns-clause-reads c = λ ds hd. let f1 = c.in_ok-behind_value.ensures.reads _ (c.new-own.ensures _ hd.ordered) in found (lexemes c.args.tokens.now) c.args.cursor c.in_ok-behind_end.behind_end (c.in_ok-add_statement.ensures.builds _ _ f1.holds (holds_on f1.holds.ordered c.in_ok-behind_value.ensures.grows hd)) (omega (arith, c.in_ok-behind_keyword.ensures.place, c.in_ok-behind_value.ensures.goes.forward, c.in_ok-behind_end.ensures.place)) (omega (arith, c.in_ok-behind_end.ensures.place, c.in_ok-behind_end.ensures.within)) (seen (done (seen (start (parts.Statement statements.Delay (lexeme c.args.tokens.now.source c.args.first) ds) _) c.in_ok-behind_keyword.ensures.takes refl) f1.reads (λ b. refl)) c.in_ok-behind_end.ensures.takes refl)

pub returns-clause-goes : goal.returns-clause-goes
returns-clause-goes c = record { forward = omega (arith, c.in_ok-behind_keyword.ensures.place, c.in_ok-behind_value.ensures.goes.forward, c.in_ok-behind_end.ensures.place); ends = (omega (arith, c.in_ok-behind_end.ensures.place, c.in_ok-behind_end.ensures.within)) }

pub returns-clause-grows : goal.returns-clause-grows
returns-clause-grows c = (grows_on c.in_ok-behind_value.ensures.grows c.in_ok-add_statement.ensures.grows)
