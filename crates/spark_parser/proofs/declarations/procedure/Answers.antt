use Rattle.std.proofs.Common.{refl, arith}
use Rattle.ada_tree.specs.declared.token.Mark.TheVariants as marks
use Rattle.ada_grammar.specs.declared.tokens.Class.TheVariants as classes
use Rattle.ada_grammar.specs.Lexemes.{lexeme, lexemes}
use Rattle.ada_grammar.specs.Parts as parts
use Rattle.ada_grammar.specs.Parts.{mark, word, Gives, Call, Rest}
use Rattle.ada_grammar.proofs.Steps.{start, seen, unseen, done}
use Rattle.ada_grammar.proofs.Answering.{passes_here, misses_here, refuses}
use Rattle.ada_grammar.proofs.Joining.{absent, present, fault_found, finds_last, goes_on}
use Rattle.ada_grammar.proofs.Standing.{grows_on, holds_on}
use Rattle.spark_parser.proofs.declarations.procedure.Goals as goal

pub returns-in_err-name-clause-reads : goal.returns-in_err-name-clause-reads
returns-in_err-name-clause-reads c = λ ds hd. fault_found (parts.Procedure c.args.region ds) (lexemes c.args.tokens.now) c.args.cursor _ _ _ _ (misses_here (lexemes c.args.tokens.now) c.args.cursor c.args.cursor classes.Word _ c.requires.at (start (parts.Procedure c.args.region ds) _) refl (λ t. refl) c.in_err-name.ensures) c.from_residual.ensures.1

pub returns-in_err-behind_opening-clause-reads : goal.returns-in_err-behind_opening-clause-reads
returns-in_err-behind_opening-clause-reads c = λ ds hd. fault_found (parts.Procedure c.args.region ds) (lexemes c.args.tokens.now) c.args.cursor _ _ _ _ (passes_here (lexemes c.args.tokens.now) c.args.cursor c.in_ok-name.behind (mark marks.Open) _ (seen (start (parts.Procedure c.args.region ds) _) c.in_ok-name.ensures.takes refl) (λ t. refl) c.in_err-behind_opening.ensures) c.from_residual-in_err-behind_opening.ensures.1

pub returns-in_err-next-clause-reads : goal.returns-in_err-next-clause-reads
returns-in_err-next-clause-reads c = λ ds hd. fault_found (parts.Procedure c.args.region ds) (lexemes c.args.tokens.now) c.args.cursor _ _ _ _ (refuses (lexemes c.args.tokens.now) c.args.cursor c.in-Some.behind_opening _ (seen (seen (start (parts.Procedure c.args.region ds) _) c.in_ok-name.ensures.takes refl) (present (mark marks.Open) (lexeme c.args.tokens.now.source) (lexemes c.args.tokens.now) c.in_ok-name.behind c.in_ok-behind_opening.ensures c.in-Some.is).takes refl) (λ b. refl) (c.in_err-next.ensures.reads _ (c.new-own.ensures _ hd.ordered))) c.from_residual-in_err-next.ensures.1

pub returns-in-Some-clause-reads : goal.returns-in-Some-clause-reads
returns-in-Some-clause-reads c = λ ds hd. let f1 = c.in_ok-next.ensures.reads _ (c.new-own.ensures _ hd.ordered) in finds_last (lexemes c.args.tokens.now) c.args.cursor c.in_ok-next.next _ _ _ (done (seen (seen (start (parts.Procedure c.args.region ds) _) c.in_ok-name.ensures.takes refl) (present (mark marks.Open) (lexeme c.args.tokens.now.source) (lexemes c.args.tokens.now) c.in_ok-name.behind c.in_ok-behind_opening.ensures c.in-Some.is).takes refl) f1.reads (λ b. refl)) (omega (arith, c.in_ok-name.ensures.place, (present (mark marks.Open) (lexeme c.args.tokens.now.source) (lexemes c.args.tokens.now) c.in_ok-name.behind c.in_ok-behind_opening.ensures c.in-Some.is).place, c.in_ok-next.ensures.goes.forward)) refl (c.behind_head.ensures.reads _ _ f1.holds (holds_on f1.holds.ordered c.in_ok-next.ensures.grows hd))

pub returns-in-Some-clause-goes : goal.returns-in-Some-clause-goes
returns-in-Some-clause-goes c = goes_on (lexemes c.args.tokens.now) c.args.cursor c.in_ok-next.next _ (omega (arith, c.in_ok-name.ensures.place, (present (mark marks.Open) (lexeme c.args.tokens.now.source) (lexemes c.args.tokens.now) c.in_ok-name.behind c.in_ok-behind_opening.ensures c.in-Some.is).place, c.in_ok-next.ensures.goes.forward)) c.behind_head.ensures.goes

pub returns-in-Some-clause-grows : goal.returns-in-Some-clause-grows
returns-in-Some-clause-grows c = (grows_on c.in_ok-next.ensures.grows c.behind_head.ensures.grows)

pub returns-clause-reads : goal.returns-clause-reads
returns-clause-reads c = λ ds hd. finds_last (lexemes c.args.tokens.now) c.args.cursor c.in_ok-name.behind _ _ _ (unseen (seen (start (parts.Procedure c.args.region ds) _) c.in_ok-name.ensures.takes refl) (absent (mark marks.Open) (lexeme c.args.tokens.now.source) (lexemes c.args.tokens.now) c.in_ok-name.behind c.in_ok-behind_opening.ensures c.in_default.is)) (omega (arith, c.in_ok-name.ensures.place)) refl (c.behind_head-2.ensures.reads _ _ (c.new-own.ensures _ hd.ordered) hd)

pub returns-clause-goes : goal.returns-clause-goes
returns-clause-goes c = goes_on (lexemes c.args.tokens.now) c.args.cursor c.in_ok-name.behind _ (omega (arith, c.in_ok-name.ensures.place)) c.behind_head-2.ensures.goes
