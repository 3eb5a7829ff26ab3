use Rattle.std.proofs.Common.{refl, arith}
use Rattle.ada_tree.specs.declared.token.Mark.TheVariants as marks
use Rattle.ada_grammar.specs.declared.tokens.Class.TheVariants as classes
use Rattle.ada_grammar.specs.Lexemes.{lexeme, lexemes}
use Rattle.ada_grammar.specs.Parts as parts
use Rattle.ada_grammar.specs.Parts.{mark, word, Gives, Call, Rest}
use Rattle.ada_grammar.proofs.Steps.{start, seen, unseen, done}
use Rattle.ada_grammar.proofs.Answering.{passes_here, misses_here, refuses}
use Rattle.ada_grammar.proofs.Joining.{absent, present, fault_found, finds_last, goes_on}
use Rattle.ada_grammar.proofs.Standing.{grows_on, holds_on}
use Rattle.spark_parser.proofs.declarations.entry_body.Goals as goal

pub returns-in_err-name-clause-reads : goal.returns-in_err-name-clause-reads
returns-in_err-name-clause-reads c = λ ds hd. fault_found (parts.EntryBody ds) (lexemes c.args.tokens.now) c.args.cursor _ _ _ _ (misses_here (lexemes c.args.tokens.now) c.args.cursor c.args.cursor classes.Word _ c.requires.at (start (parts.EntryBody ds) _) refl (λ t. refl) c.in_err-name.ensures) c.from_residual.ensures.1

pub returns-in_err-behind_opening-clause-reads : goal.returns-in_err-behind_opening-clause-reads
returns-in_err-behind_opening-clause-reads c = λ ds hd. fault_found (parts.EntryBody ds) (lexemes c.args.tokens.now) c.args.cursor _ _ _ _ (passes_here (lexemes c.args.tokens.now) c.args.cursor c.in_ok-name.behind_name (mark marks.Open) _ (seen (start (parts.EntryBody ds) _) c.in_ok-name.ensures.takes refl) (λ t. refl) c.in_err-behind_opening.ensures) c.from_residual-in_err-behind_opening.ensures.1

pub returns-in_err-behind_formals-clause-reads : goal.returns-in_err-behind_formals-clause-reads
returns-in_err-behind_formals-clause-reads c = λ ds hd. fault_found (parts.EntryBody ds) (lexemes c.args.tokens.now) c.args.cursor _ _ _ _ (refuses (lexemes c.args.tokens.now) c.args.cursor c.in-Some.behind_opening _ (seen (seen (start (parts.EntryBody ds) _) c.in_ok-name.ensures.takes refl) (present (mark marks.Open) (lexeme c.args.tokens.now.source) (lexemes c.args.tokens.now) c.in_ok-name.behind_name c.in_ok-behind_opening.ensures c.in-Some.is).takes refl) (λ b. refl) (c.in_err-behind_formals.ensures.reads _ (c.new-own.ensures _ hd.ordered))) c.from_residual-in_err-behind_formals.ensures.1

pub returns-in-Some-clause-reads : goal.returns-in-Some-clause-reads
returns-in-Some-clause-reads c = λ ds hd. let f1 = c.in_ok-behind_formals.ensures.reads _ (c.new-own.ensures _ hd.ordered) in finds_last (lexemes c.args.tokens.now) c.args.cursor c.in_ok-behind_formals.behind_formals _ _ _ (done (seen (seen (start (parts.EntryBody ds) _) c.in_ok-name.ensures.takes refl) (present (mark marks.Open) (lexeme c.args.tokens.now.source) (lexemes c.args.tokens.now) c.in_ok-name.behind_name c.in_ok-behind_opening.ensures c.in-Some.is).takes refl) f1.reads (λ b. refl)) (omega (arith, c.in_ok-name.ensures.place, (present (mark marks.Open) (lexeme c.args.tokens.now.source) (lexemes c.args.tokens.now) c.in_ok-name.behind_name c.in_ok-behind_opening.ensures c.in-Some.is).place, c.in_ok-behind_formals.ensures.goes.forward)) refl (c.barrier.ensures.reads _ _ f1.holds (holds_on f1.holds.ordered c.in_ok-behind_formals.ensures.grows hd))

pub returns-in-Some-clause-goes : goal.returns-in-Some-clause-goes
returns-in-Some-clause-goes c = goes_on (lexemes c.args.tokens.now) c.args.cursor c.in_ok-behind_formals.behind_formals _ (omega (arith, c.in_ok-name.ensures.place, (present (mark marks.Open) (lexeme c.args.tokens.now.source) (lexemes c.args.tokens.now) c.in_ok-name.behind_name c.in_ok-behind_opening.ensures c.in-Some.is).place, c.in_ok-behind_formals.ensures.goes.forward)) c.barrier.ensures.goes

pub returns-in-Some-clause-grows : goal.returns-in-Some-clause-grows
returns-in-Some-clause-grows c = (grows_on c.in_ok-behind_formals.ensures.grows c.barrier.ensures.grows)

pub returns-clause-reads : goal.returns-clause-reads
returns-clause-reads c = λ ds hd. finds_last (lexemes c.args.tokens.now) c.args.cursor c.in_ok-name.behind_name _ _ _ (unseen (seen (start (parts.EntryBody ds) _) c.in_ok-name.ensures.takes refl) (absent (mark marks.Open) (lexeme c.args.tokens.now.source) (lexemes c.args.tokens.now) c.in_ok-name.behind_name c.in_ok-behind_opening.ensures c.in_default.is)) (omega (arith, c.in_ok-name.ensures.place)) refl (c.barrier-2.ensures.reads _ _ (c.new-own.ensures _ hd.ordered) hd)

pub returns-clause-goes : goal.returns-clause-goes
returns-clause-goes c = goes_on (lexemes c.args.tokens.now) c.args.cursor c.in_ok-name.behind_name _ (omega (arith, c.in_ok-name.ensures.place)) c.barrier-2.ensures.goes
