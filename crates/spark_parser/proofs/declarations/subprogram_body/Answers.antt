use Rattle.std.proofs.Common.{refl, arith}
use Rattle.ada_grammar.specs.Lexemes.{lexeme, lexemes}
use Rattle.ada_grammar.specs.Parts as parts
use Rattle.ada_grammar.specs.Parts.{mark, word, Gives, Call, Rest}
use Rattle.ada_grammar.proofs.Steps.{start, done}
use Rattle.ada_grammar.proofs.Answering.{refuses}
use Rattle.ada_grammar.proofs.Joining.{fault_found, finds_last, goes_on}
use Rattle.ada_grammar.proofs.Standing.{grows_on, holds_on}
use Rattle.spark_parser.proofs.declarations.subprogram_body.Goals as goal

pub returns-in_err-behind_body-clause-reads : goal.returns-in_err-behind_body-clause-reads
returns-in_err-behind_body-clause-reads c = λ os ds ho hd. fault_found (parts.SubprogramBody c.args.head (lexeme c.args.tokens.now.source c.args.name) os ds) (lexemes c.args.tokens.now) c.args.cursor _ _ _ _ (refuses (lexemes c.args.tokens.now) c.args.cursor c.args.cursor _ (start (parts.SubprogramBody c.args.head (lexeme c.args.tokens.now.source c.args.name) os ds) _) (λ b. refl) (c.in_err-behind_body.ensures.reads _ ho)) c.from_residual.ensures.1

pub returns-clause-reads : goal.returns-clause-reads
returns-clause-reads c = λ os ds ho hd. let f1 = c.in_ok-behind_body.ensures.reads _ ho in finds_last (lexemes c.args.tokens.now) c.args.cursor c.in_ok-behind_body.behind_body _ _ _ (done (start (parts.SubprogramBody c.args.head (lexeme c.args.tokens.now.source c.args.name) os ds) _) f1.reads (λ b. refl)) (omega (arith, c.in_ok-behind_body.ensures.goes.forward)) refl (c.end_of_declaration.ensures.reads _ _ f1.holds (holds_on f1.holds.ordered c.in_ok-behind_body.ensures.grows hd))

pub returns-clause-goes : goal.returns-clause-goes
returns-clause-goes c = goes_on (lexemes c.args.tokens.now) c.args.cursor c.in_ok-behind_body.behind_body _ (omega (arith, c.in_ok-behind_body.ensures.goes.forward)) c.end_of_declaration.ensures.goes

pub returns-clause-grows : goal.returns-clause-grows
returns-clause-grows c = (grows_on c.in_ok-behind_body.ensures.grows c.end_of_declaration.ensures.grows)
