use Rattle.std.proofs.Common.{refl, arith}
use Rattle.ada_tree.specs.declared.token.Mark.TheVariants as marks
use Rattle.ada_tree.specs.declared.words.Reserved.TheVariants as words
use Rattle.ada_grammar.specs.declared.tokens.Class.TheVariants as classes
use Rattle.ada_grammar.specs.Lexemes.{lexeme, lexemes}
use Rattle.ada_grammar.specs.Parts as parts
use Rattle.ada_grammar.specs.Parts.{mark, word, Gives, Call, Rest}
use Rattle.ada_grammar.proofs.Steps.{start, seen, unseen, done}
use Rattle.ada_grammar.proofs.Answering.{passes_here, misses_here, refuses}
use Rattle.ada_grammar.proofs.Joining.{absent, present, fault_found, found, finds_last, goes_on}
use Rattle.ada_grammar.proofs.Standing.{grows_on, holds_on}
use Rattle.spark_parser.proofs.declarations.task_named.Goals as goal

pub returns-in_err-name-clause-reads : goal.returns-in_err-name-clause-reads
returns-in_err-name-clause-reads c = λ ds hd. fault_found (parts.TaskNamed c.args.is_type ds) (lexemes c.args.tokens.now) c.args.cursor _ _ _ _ (misses_here (lexemes c.args.tokens.now) c.args.cursor c.args.cursor classes.Word _ c.requires.at (start (parts.TaskNamed c.args.is_type ds) _) refl (λ t. refl) c.in_err-name.ensures) c.from_residual.ensures.1

pub returns-in_err-behind_aspects-clause-reads : goal.returns-in_err-behind_aspects-clause-reads
returns-in_err-behind_aspects-clause-reads c = λ ds hd. fault_found (parts.TaskNamed c.args.is_type ds) (lexemes c.args.tokens.now) c.args.cursor _ _ _ _ (refuses (lexemes c.args.tokens.now) c.args.cursor c.in_ok-name.behind_name _ (seen (start (parts.TaskNamed c.args.is_type ds) _) c.in_ok-name.ensures.takes refl) (λ b. refl) (c.in_err-behind_aspects.ensures.reads _ (c.new-own.ensures _ hd.ordered))) c.from_residual-in_err-behind_aspects.ensures.1

pub returns-in_err-behind_keyword-clause-reads : goal.returns-in_err-behind_keyword-clause-reads
returns-in_err-behind_keyword-clause-reads c = λ ds hd. let f1 = c.in_ok-behind_aspects.ensures.reads _ (c.new-own.ensures _ hd.ordered) in fault_found (parts.TaskNamed c.args.is_type ds) (lexemes c.args.tokens.now) c.args.cursor _ _ _ _ (passes_here (lexemes c.args.tokens.now) c.args.cursor c.in_ok-behind_aspects.behind_aspects (word words.Is) _ (done (seen (start (parts.TaskNamed c.args.is_type ds) _) c.in_ok-name.ensures.takes refl) f1.reads (λ b. refl)) (λ t. refl) c.in_err-behind_keyword.ensures) c.from_residual-in_err-behind_keyword.ensures.1

pub returns-in-Some-clause-reads : goal.returns-in-Some-clause-reads
returns-in-Some-clause-reads c = λ ds hd. let f1 = c.in_ok-behind_aspects.ensures.reads _ (c.new-own.ensures _ hd.ordered) in finds_last (lexemes c.args.tokens.now) c.args.cursor c.in-Some.behind_keyword _ _ _ (seen (done (seen (start (parts.TaskNamed c.args.is_type ds) _) c.in_ok-name.ensures.takes refl) f1.reads (λ b. refl)) (present (word words.Is) (lexeme c.args.tokens.now.source) (lexemes c.args.tokens.now) c.in_ok-behind_aspects.behind_aspects c.in_ok-behind_keyword.ensures c.in-Some.is).takes refl) (omega (arith, c.in_ok-name.ensures.place, c.in_ok-behind_aspects.ensures.goes.forward, (present (word words.Is) (lexeme c.args.tokens.now.source) (lexemes c.args.tokens.now) c.in_ok-behind_aspects.behind_aspects c.in_ok-behind_keyword.ensures c.in-Some.is).place)) refl (c.task_definition.ensures.reads _ _ f1.holds (holds_on f1.holds.ordered c.in_ok-behind_aspects.ensures.grows hd))

pub returns-in-Some-clause-goes : goal.returns-in-Some-clause-goes
returns-in-Some-clause-goes c = goes_on (lexemes c.args.tokens.now) c.args.cursor c.in-Some.behind_keyword _ (omega (arith, c.in_ok-name.ensures.place, c.in_ok-behind_aspects.ensures.goes.forward, (present (word words.Is) (lexeme c.args.tokens.now.source) (lexemes c.args.tokens.now) c.in_ok-behind_aspects.behind_aspects c.in_ok-behind_keyword.ensures c.in-Some.is).place)) c.task_definition.ensures.goes

pub returns-in-Some-clause-grows : goal.returns-in-Some-clause-grows
returns-in-Some-clause-grows c = (grows_on c.in_ok-behind_aspects.ensures.grows c.task_definition.ensures.grows)

pub returns-in_err-behind_end-clause-reads : goal.returns-in_err-behind_end-clause-reads
returns-in_err-behind_end-clause-reads c = λ ds hd. let f1 = c.in_ok-behind_aspects.ensures.reads _ (c.new-own.ensures _ hd.ordered) in fault_found (parts.TaskNamed c.args.is_type ds) (lexemes c.args.tokens.now) c.args.cursor _ _ _ _ (misses_here (lexemes c.args.tokens.now) c.args.cursor c.in_ok-behind_aspects.behind_aspects (mark marks.Semicolon) _ c.in_ok-behind_aspects.ensures.goes.ends (unseen (done (seen (start (parts.TaskNamed c.args.is_type ds) _) c.in_ok-name.ensures.takes refl) f1.reads (λ b. refl)) (absent (word words.Is) (lexeme c.args.tokens.now.source) (lexemes c.args.tokens.now) c.in_ok-behind_aspects.behind_aspects c.in_ok-behind_keyword.ensures c.in_default.is)) refl (λ t. refl) c.in_err-behind_end.ensures) c.from_residual-in_err-behind_end.ensures.1

pub returns-in_err-declare-clause-grows : goal.returns-in_err-declare-clause-grows
returns-in_err-declare-clause-grows c = (grows_on c.in_ok-behind_aspects.ensures.grows c.in_err-declare.ensures.grows)

pub returns-clause-reads : goal.returns-clause-reads
returns-clause-reads c = λ ds hd. let f1 = c.in_ok-behind_aspects.ensures.reads _ (c.new-own.ensures _ hd.ordered) in found (lexemes c.args.tokens.now) c.args.cursor c.in_ok-behind_end.behind_end (c.in_ok-declare.ensures.builds _ _ f1.holds (holds_on f1.holds.ordered c.in_ok-behind_aspects.ensures.grows hd)) (omega (arith, c.in_ok-name.ensures.place, c.in_ok-behind_aspects.ensures.goes.forward, c.in_ok-behind_end.ensures.place)) (omega (arith, c.in_ok-behind_end.ensures.place, c.in_ok-behind_end.ensures.within)) (seen (unseen (done (seen (start (parts.TaskNamed c.args.is_type ds) _) c.in_ok-name.ensures.takes refl) f1.reads (λ b. refl)) (absent (word words.Is) (lexeme c.args.tokens.now.source) (lexemes c.args.tokens.now) c.in_ok-behind_aspects.behind_aspects c.in_ok-behind_keyword.ensures c.in_default.is)) c.in_ok-behind_end.ensures.takes refl)

pub returns-clause-goes : goal.returns-clause-goes
returns-clause-goes c = record { forward = omega (arith, c.in_ok-name.ensures.place, c.in_ok-behind_aspects.ensures.goes.forward, c.in_ok-behind_end.ensures.place); ends = (omega (arith, c.in_ok-behind_end.ensures.place, c.in_ok-behind_end.ensures.within)) }

pub returns-clause-grows : goal.returns-clause-grows
returns-clause-grows c = (grows_on c.in_ok-behind_aspects.ensures.grows c.in_ok-declare.ensures.grows)
