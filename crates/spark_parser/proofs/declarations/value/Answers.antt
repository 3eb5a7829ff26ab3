use Rattle.std.proofs.Common.{refl, map, arith, ap}
use Rattle.ada_tree.specs.declared.token.Mark.TheVariants as marks
use Rattle.ada_tree.specs.declared.declarations.DeclKind.TheVariants as decls
use Rattle.ada_grammar.specs.Lexemes.{lexeme, lexemes}
use Rattle.ada_grammar.specs.Phrases as phrases
use Rattle.ada_grammar.specs.Parts as parts
use Rattle.ada_grammar.specs.Parts.{mark, word, Gives, Call, Rest}
use Rattle.ada_grammar.proofs.Steps.{start, seen, done}
use Rattle.ada_grammar.proofs.Answering.{misses_here, refuses}
use Rattle.ada_grammar.proofs.Joining.{rest_as, fault_found, finds_last, goes_on}
use Rattle.ada_grammar.proofs.Standing.{grows_on, holds_on}
use Rattle.spark_parser.proofs.declarations.value.Goals as goal

pub returns-in_err-behind_value-clause-reads : goal.returns-in_err-behind_value-clause-reads
returns-in_err-behind_value-clause-reads c = λ os ds ho hd. fault_found (parts.Value c.args.head (lexeme c.args.tokens.now.source c.args.name) os ds) (lexemes c.args.tokens.now) c.args.cursor _ _ _ _ (refuses (lexemes c.args.tokens.now) c.args.cursor c.args.cursor _ (start (parts.Value c.args.head (lexeme c.args.tokens.now.source c.args.name) os ds) _) (λ b. refl) (c.in_err-behind_value.ensures.reads _ ho)) c.from_residual.ensures.1

pub returns-in_err-behind_end-clause-reads : goal.returns-in_err-behind_end-clause-reads
returns-in_err-behind_end-clause-reads c = λ os ds ho hd. let f1 = c.in_ok-behind_value.ensures.reads _ ho in fault_found (parts.Value c.args.head (lexeme c.args.tokens.now.source c.args.name) os ds) (lexemes c.args.tokens.now) c.args.cursor _ _ _ _ (misses_here (lexemes c.args.tokens.now) c.args.cursor c.in_ok-behind_value.behind_value (mark marks.Close) _ c.in_ok-behind_value.ensures.goes.ends (done (start (parts.Value c.args.head (lexeme c.args.tokens.now.source c.args.name) os ds) _) f1.reads (λ b. refl)) refl (λ t. refl) c.in_err-behind_end.ensures) c.from_residual-in_err-behind_end.ensures.1

pub returns-clause-reads : goal.returns-clause-reads
returns-clause-reads c = λ os ds ho hd. let f1 = c.in_ok-behind_value.ensures.reads _ ho in finds_last (lexemes c.args.tokens.now) c.args.cursor c.in_ok-behind_end.behind_end _ _ _ (rest_as (λ z. parts.Closing (decls.ExpressionFunction c.args.head) z (phrases.with_expr os f1.phrase.tree) ds) (ap (λ z. map (lexeme c.args.tokens.now.source) z) c.in_ok-names.ensures) (seen (done (start (parts.Value c.args.head (lexeme c.args.tokens.now.source c.args.name) os ds) _) f1.reads (λ b. refl)) c.in_ok-behind_end.ensures.takes refl)) (omega (arith, c.in_ok-behind_value.ensures.goes.forward, c.in_ok-behind_end.ensures.place)) refl (c.closing.ensures.reads _ _ f1.holds (holds_on f1.holds.ordered c.in_ok-behind_value.ensures.grows hd))

pub returns-clause-goes : goal.returns-clause-goes
returns-clause-goes c = goes_on (lexemes c.args.tokens.now) c.args.cursor c.in_ok-behind_end.behind_end _ (omega (arith, c.in_ok-behind_value.ensures.goes.forward, c.in_ok-behind_end.ensures.place)) c.closing.ensures.goes

pub returns-clause-grows : goal.returns-clause-grows
returns-clause-grows c = (grows_on c.in_ok-behind_value.ensures.grows c.closing.ensures.grows)
