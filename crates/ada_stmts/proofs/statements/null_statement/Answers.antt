use Rattle.std.proofs.Common.{refl, arith}
use Rattle.ada_tree.specs.declared.token.Mark.TheVariants as marks
use Rattle.ada_tree.specs.declared.forms.StatementForm.TheVariants as statements
use Rattle.ada_grammar.specs.Lexemes.{lexeme, lexemes}
use Rattle.ada_grammar.specs.Parts as parts
use Rattle.ada_grammar.specs.Parts.{mark, word, Gives, Call, Rest}
use Rattle.ada_grammar.proofs.Steps.{start, seen}
use Rattle.ada_grammar.proofs.Answering.{misses_here}
use Rattle.ada_grammar.proofs.Joining.{fault_found, found}
use Rattle.ada_stmts.proofs.statements.null_statement.Goals as goal

pub returns-in_err-behind_end-clause-reads : goal.returns-in_err-behind_end-clause-reads
returns-in_err-behind_end-clause-reads c = λ ds hd. fault_found (parts.Statement statements.Null (lexeme c.args.tokens.now.source c.args.first) ds) (lexemes c.args.tokens.now) c.args.cursor _ _ _ _ (misses_here (lexemes c.args.tokens.now) c.args.cursor c.args.cursor (mark marks.Semicolon) _ c.requires.at (start (parts.Statement statements.Null (lexeme c.args.tokens.now.source c.args.first) ds) _) refl (λ t. refl) c.in_err-behind_end.ensures) c.from_residual.ensures.1

pub returns-clause-reads : goal.returns-clause-reads
returns-clause-reads c = λ ds hd. found (lexemes c.args.tokens.now) c.args.cursor c.in_ok-behind_end.behind_end (c.in_ok-add_statement.ensures.builds _ _ (c.new.ensures _ hd.ordered) hd) (omega (arith, c.in_ok-behind_end.ensures.place)) (omega (arith, c.in_ok-behind_end.ensures.place, c.in_ok-behind_end.ensures.within)) (seen (start (parts.Statement statements.Null (lexeme c.args.tokens.now.source c.args.first) ds) _) c.in_ok-behind_end.ensures.takes refl)

pub returns-clause-goes : goal.returns-clause-goes
returns-clause-goes c = record { forward = omega (arith, c.in_ok-behind_end.ensures.place); ends = (omega (arith, c.in_ok-behind_end.ensures.place, c.in_ok-behind_end.ensures.within)) }
