use Rattle.std.proofs.Common.{refl, arith}
use Rattle.ada_tree.specs.declared.words.Reserved.TheVariants as words
use Rattle.ada_grammar.specs.Lexemes.{lexeme, lexemes}
use Rattle.ada_grammar.specs.Parts as parts
use Rattle.ada_grammar.specs.Parts.{mark, word, Gives, Call, Rest}
use Rattle.ada_grammar.proofs.Steps.{start, seen, done}
use Rattle.ada_grammar.proofs.Answering.{misses_here, refuses}
use Rattle.ada_grammar.proofs.Joining.{fault_found, finds_last, goes_on}
use Rattle.ada_grammar.proofs.Standing.{grows_on, holds_on}
use Rattle.spark_parser.proofs.declarations.function_result.Goals as goal

pub returns-in_err-behind_keyword-clause-reads : goal.returns-in_err-behind_keyword-clause-reads
returns-in_err-behind_keyword-clause-reads c = λ os ds ho hd. fault_found (parts.FunctionResult c.args.region c.args.head (lexeme c.args.tokens.now.source c.args.name) os ds) (lexemes c.args.tokens.now) c.args.cursor _ _ _ _ (misses_here (lexemes c.args.tokens.now) c.args.cursor c.args.cursor (word words.Return) _ c.requires.at (start (parts.FunctionResult c.args.region c.args.head (lexeme c.args.tokens.now.source c.args.name) os ds) _) refl (λ t. refl) c.in_err-behind_keyword.ensures) c.from_residual.ensures.1

pub returns-in_err-behind_mark-clause-reads : goal.returns-in_err-behind_mark-clause-reads
returns-in_err-behind_mark-clause-reads c = λ os ds ho hd. fault_found (parts.FunctionResult c.args.region c.args.head (lexeme c.args.tokens.now.source c.args.name) os ds) (lexemes c.args.tokens.now) c.args.cursor _ _ _ _ (refuses (lexemes c.args.tokens.now) c.args.cursor c.in_ok-behind_keyword.behind_keyword _ (seen (start (parts.FunctionResult c.args.region c.args.head (lexeme c.args.tokens.now.source c.args.name) os ds) _) c.in_ok-behind_keyword.ensures.takes refl) (λ b. refl) (c.in_err-behind_mark.ensures.reads _ ho)) c.from_residual-in_err-behind_mark.ensures.1

pub returns-clause-reads : goal.returns-clause-reads
returns-clause-reads c = λ os ds ho hd. let f1 = c.in_ok-behind_mark.ensures.reads _ ho in finds_last (lexemes c.args.tokens.now) c.args.cursor c.in_ok-behind_mark.behind_mark _ _ _ (done (seen (start (parts.FunctionResult c.args.region c.args.head (lexeme c.args.tokens.now.source c.args.name) os ds) _) c.in_ok-behind_keyword.ensures.takes refl) f1.reads (λ b. refl)) (omega (arith, c.in_ok-behind_keyword.ensures.place, c.in_ok-behind_mark.ensures.goes.forward)) refl (c.behind_head.ensures.reads _ _ f1.holds (holds_on f1.holds.ordered c.in_ok-behind_mark.ensures.grows hd))

pub returns-clause-goes : goal.returns-clause-goes
returns-clause-goes c = goes_on (lexemes c.args.tokens.now) c.args.cursor c.in_ok-behind_mark.behind_mark _ (omega (arith, c.in_ok-behind_keyword.ensures.place, c.in_ok-behind_mark.ensures.goes.forward)) c.behind_head.ensures.goes

pub returns-clause-grows : goal.returns-clause-grows
returns-clause-grows c = (grows_on c.in_ok-behind_mark.ensures.grows c.behind_head.ensures.grows)
