use Rattle.std.proofs.Common.{refl, arith}
use Rattle.ada_tree.specs.declared.words.Reserved.TheVariants as words
use Rattle.ada_grammar.specs.declared.tokens.Class.TheVariants as classes
use Rattle.ada_grammar.specs.Lexemes.{lexemes}
use Rattle.ada_grammar.specs.Parts as parts
use Rattle.ada_grammar.specs.Parts.{mark, word, Gives, Call, Rest}
use Rattle.ada_grammar.proofs.Steps.{start, seen, done}
use Rattle.ada_grammar.proofs.Answering.{misses_here, refuses}
use Rattle.ada_grammar.proofs.Joining.{fault_found, finds_last, goes_on}
use Rattle.ada_grammar.proofs.Standing.{grows_on, holds_on}
use Rattle.spark_parser.proofs.declarations.task_body.Goals as goal

pub returns-in_err-name-clause-reads : goal.returns-in_err-name-clause-reads
returns-in_err-name-clause-reads c = λ ds hd. fault_found (parts.TaskBody ds) (lexemes c.args.tokens.now) c.args.cursor _ _ _ _ (misses_here (lexemes c.args.tokens.now) c.args.cursor c.args.cursor classes.Word _ c.requires.at (start (parts.TaskBody ds) _) refl (λ t. refl) c.in_err-name.ensures) c.from_residual.ensures.1

pub returns-in_err-behind_aspects-clause-reads : goal.returns-in_err-behind_aspects-clause-reads
returns-in_err-behind_aspects-clause-reads c = λ ds hd. fault_found (parts.TaskBody ds) (lexemes c.args.tokens.now) c.args.cursor _ _ _ _ (refuses (lexemes c.args.tokens.now) c.args.cursor c.in_ok-name.behind_name _ (seen (start (parts.TaskBody ds) _) c.in_ok-name.ensures.takes refl) (λ b. refl) (c.in_err-behind_aspects.ensures.reads _ (c.new-own.ensures _ hd.ordered))) c.from_residual-in_err-behind_aspects.ensures.1

pub returns-in_err-behind_keyword-clause-reads : goal.returns-in_err-behind_keyword-clause-reads
returns-in_err-behind_keyword-clause-reads c = λ ds hd. let f1 = c.in_ok-behind_aspects.ensures.reads _ (c.new-own.ensures _ hd.ordered) in fault_found (parts.TaskBody ds) (lexemes c.args.tokens.now) c.args.cursor _ _ _ _ (misses_here (lexemes c.args.tokens.now) c.args.cursor c.in_ok-behind_aspects.behind_aspects (word words.Is) _ c.in_ok-behind_aspects.ensures.goes.ends (done (seen (start (parts.TaskBody ds) _) c.in_ok-name.ensures.takes refl) f1.reads (λ b. refl)) refl (λ t. refl) c.in_err-behind_keyword.ensures) c.from_residual-in_err-behind_keyword.ensures.1

pub returns-in_err-behind_body-clause-reads : goal.returns-in_err-behind_body-clause-reads
returns-in_err-behind_body-clause-reads c = λ ds hd. let f1 = c.in_ok-behind_aspects.ensures.reads _ (c.new-own.ensures _ hd.ordered) in fault_found (parts.TaskBody ds) (lexemes c.args.tokens.now) c.args.cursor _ _ _ _ (refuses (lexemes c.args.tokens.now) c.args.cursor c.in_ok-behind_keyword.behind_keyword _ (seen (done (seen (start (parts.TaskBody ds) _) c.in_ok-name.ensures.takes refl) f1.reads (λ b. refl)) c.in_ok-behind_keyword.ensures.takes refl) (λ b. refl) (c.in_err-behind_body.ensures.reads _ f1.holds)) c.from_residual-in_err-behind_body.ensures.1

pub returns-in_err-behind_body-clause-grows : goal.returns-in_err-behind_body-clause-grows
returns-in_err-behind_body-clause-grows c = (grows_on c.in_ok-behind_aspects.ensures.grows c.in_err-behind_body.ensures.grows)

pub returns-clause-reads : goal.returns-clause-reads
returns-clause-reads c = λ ds hd. let f1 = c.in_ok-behind_aspects.ensures.reads _ (c.new-own.ensures _ hd.ordered) in let f2 = c.in_ok-behind_body.ensures.reads _ f1.holds in finds_last (lexemes c.args.tokens.now) c.args.cursor c.in_ok-behind_body.behind_body _ _ _ (done (seen (done (seen (start (parts.TaskBody ds) _) c.in_ok-name.ensures.takes refl) f1.reads (λ b. refl)) c.in_ok-behind_keyword.ensures.takes refl) f2.reads (λ b. refl)) (omega (arith, c.in_ok-name.ensures.place, c.in_ok-behind_aspects.ensures.goes.forward, c.in_ok-behind_keyword.ensures.place, c.in_ok-behind_body.ensures.goes.forward)) refl (c.end_of_declaration.ensures.reads _ _ f2.holds (holds_on f2.holds.ordered c.in_ok-behind_body.ensures.grows (holds_on f1.holds.ordered c.in_ok-behind_aspects.ensures.grows hd)))

pub returns-clause-goes : goal.returns-clause-goes
returns-clause-goes c = goes_on (lexemes c.args.tokens.now) c.args.cursor c.in_ok-behind_body.behind_body _ (omega (arith, c.in_ok-name.ensures.place, c.in_ok-behind_aspects.ensures.goes.forward, c.in_ok-behind_keyword.ensures.place, c.in_ok-behind_body.ensures.goes.forward)) c.end_of_declaration.ensures.goes

pub returns-clause-grows : goal.returns-clause-grows
returns-clause-grows c = (grows_on (grows_on c.in_ok-behind_aspects.ensures.grows c.in_ok-behind_body.ensures.grows) c.end_of_declaration.ensures.grows)
