use Rattle.std.proofs.Common.{refl, arith}
use Rattle.ada_tree.specs.declared.token.Mark.TheVariants as marks
use Rattle.ada_grammar.specs.declared.tokens.Class.TheVariants as classes
use Rattle.ada_grammar.specs.Lexemes.{lexeme, lexemes}
use Rattle.ada_grammar.specs.Parts as parts
use Rattle.ada_grammar.specs.Parts.{mark, word, Gives, Call, Rest}
use Rattle.ada_grammar.proofs.Steps.{start, opened, seen, unseen, done}
use Rattle.ada_grammar.proofs.Answering.{passes_here, misses_here, refuses}
use Rattle.ada_grammar.proofs.Joining.{absent, present, fault_found, found}
use Rattle.ada_grammar.proofs.Standing.{grows_on}
use Rattle.spark_parser.proofs.declarations.formals.Goals as goal

pub returns-in_err-first-clause-reads : goal.returns-in_err-first-clause-reads
returns-in_err-first-clause-reads c = λ ds hd. fault_found (parts.Formals ds) (lexemes c.args.tokens.now) c.args.cursor _ _ _ _ (misses_here (lexemes c.args.tokens.now) c.args.cursor c.args.cursor classes.Word _ c.requires.at (start (parts.Formals ds) _) refl (λ t. refl) c.in_err-first.ensures) c.from_residual.ensures.1

pub returns-in_err-next-clause-reads : goal.returns-in_err-next-clause-reads
returns-in_err-next-clause-reads c = λ ds hd. fault_found (parts.Formals ds) (lexemes c.args.tokens.now) c.args.cursor _ _ _ _ (refuses (lexemes c.args.tokens.now) c.args.cursor c.in_ok-first.behind_first _ (seen (start (parts.Formals ds) _) c.in_ok-first.ensures.takes refl) (λ b. refl) (c.in_err-next.ensures.reads _ hd)) c.from_residual-in_err-next.ensures.1

pub loop-behind_semicolon-init : goal.loop-behind_semicolon-init
loop-behind_semicolon-init c = record { forward = omega (arith, c.in_ok-first.ensures.place, c.in_ok-next.ensures.goes.forward); ends = c.in_ok-next.ensures.goes.ends; grows = c.in_ok-next.ensures.grows; awaits = λ ds hd. let f1 = c.in_ok-next.ensures.reads _ hd in (f1.children, f1.holds, (done (seen (start (parts.Formals ds) _) c.in_ok-first.ensures.takes refl) f1.reads (λ b. refl))) }

pub returns-in_err-behind_semicolon-clause-reads : goal.returns-in_err-behind_semicolon-clause-reads
returns-in_err-behind_semicolon-clause-reads c = λ ds hd. let y = c.loop-behind_semicolon.invariant.awaits ds hd in fault_found (parts.Formals ds) (lexemes c.args.tokens.now) c.args.cursor _ _ _ _ (passes_here (lexemes c.args.tokens.now) c.args.cursor c.loop-behind_semicolon.next (mark marks.Semicolon) _ (opened y.2) (λ t. refl) c.in_err-behind_semicolon.ensures) c.from_residual-in_err-behind_semicolon.ensures.1

pub returns-in_err-first-2-clause-reads : goal.returns-in_err-first-2-clause-reads
returns-in_err-first-2-clause-reads c = λ ds hd. let y = c.loop-behind_semicolon.invariant.awaits ds hd in fault_found (parts.Formals ds) (lexemes c.args.tokens.now) c.args.cursor _ _ _ _ (misses_here (lexemes c.args.tokens.now) c.args.cursor c.in-Some.behind_semicolon classes.Word _ (omega (arith, (present (mark marks.Semicolon) (lexeme c.args.tokens.now.source) (lexemes c.args.tokens.now) c.loop-behind_semicolon.next c.in_ok-behind_semicolon.ensures c.in-Some.is).place, (present (mark marks.Semicolon) (lexeme c.args.tokens.now.source) (lexemes c.args.tokens.now) c.loop-behind_semicolon.next c.in_ok-behind_semicolon.ensures c.in-Some.is).within)) (seen (opened y.2) (present (mark marks.Semicolon) (lexeme c.args.tokens.now.source) (lexemes c.args.tokens.now) c.loop-behind_semicolon.next c.in_ok-behind_semicolon.ensures c.in-Some.is).takes refl) refl (λ t. refl) c.in_err-first-2.ensures) c.from_residual-in_err-first-2.ensures.1

pub returns-in_err-next-2-clause-reads : goal.returns-in_err-next-2-clause-reads
returns-in_err-next-2-clause-reads c = λ ds hd. let y = c.loop-behind_semicolon.invariant.awaits ds hd in fault_found (parts.Formals ds) (lexemes c.args.tokens.now) c.args.cursor _ _ _ _ (refuses (lexemes c.args.tokens.now) c.args.cursor c.in_ok-first-2.behind_first_2 _ (seen (seen (opened y.2) (present (mark marks.Semicolon) (lexeme c.args.tokens.now.source) (lexemes c.args.tokens.now) c.loop-behind_semicolon.next c.in_ok-behind_semicolon.ensures c.in-Some.is).takes refl) c.in_ok-first-2.ensures.takes refl) (λ b. refl) (c.in_err-next-2.ensures.reads _ y.1)) c.from_residual-in_err-next-2.ensures.1

pub returns-in_err-next-2-clause-grows : goal.returns-in_err-next-2-clause-grows
returns-in_err-next-2-clause-grows c = (grows_on c.loop-behind_semicolon.invariant.grows c.in_err-next-2.ensures.grows)

pub loop-behind_semicolon-preserved : goal.loop-behind_semicolon-preserved
loop-behind_semicolon-preserved c = record { forward = omega (arith, c.loop-behind_semicolon.invariant.forward, (present (mark marks.Semicolon) (lexeme c.args.tokens.now.source) (lexemes c.args.tokens.now) c.loop-behind_semicolon.next c.in_ok-behind_semicolon.ensures c.in-Some.is).place, c.in_ok-first-2.ensures.place, c.in_ok-next-2.ensures.goes.forward); ends = c.in_ok-next-2.ensures.goes.ends; grows = (grows_on c.loop-behind_semicolon.invariant.grows c.in_ok-next-2.ensures.grows); awaits = λ ds hd. let y = c.loop-behind_semicolon.invariant.awaits ds hd in let f2 = c.in_ok-next-2.ensures.reads _ y.1 in (f2.children, f2.holds, (done (seen (seen (opened y.2) (present (mark marks.Semicolon) (lexeme c.args.tokens.now.source) (lexemes c.args.tokens.now) c.loop-behind_semicolon.next c.in_ok-behind_semicolon.ensures c.in-Some.is).takes refl) c.in_ok-first-2.ensures.takes refl) f2.reads (λ b. refl))) }

pub loop-behind_semicolon-smaller : goal.loop-behind_semicolon-smaller
loop-behind_semicolon-smaller c = omega (arith, (present (mark marks.Semicolon) (lexeme c.args.tokens.now.source) (lexemes c.args.tokens.now) c.loop-behind_semicolon.next c.in_ok-behind_semicolon.ensures c.in-Some.is).place, c.in_ok-first-2.ensures.place, c.in_ok-next-2.ensures.goes.forward, (present (mark marks.Semicolon) (lexeme c.args.tokens.now.source) (lexemes c.args.tokens.now) c.loop-behind_semicolon.next c.in_ok-behind_semicolon.ensures c.in-Some.is).within)

pub returns-in_err-behind_end-clause-reads : goal.returns-in_err-behind_end-clause-reads
returns-in_err-behind_end-clause-reads c = λ ds hd. let y = c.loop-behind_semicolon.invariant.awaits ds hd in fault_found (parts.Formals ds) (lexemes c.args.tokens.now) c.args.cursor _ _ _ _ (misses_here (lexemes c.args.tokens.now) c.args.cursor c.loop-behind_semicolon.next (mark marks.Close) _ c.loop-behind_semicolon.invariant.ends (unseen (opened y.2) (absent (mark marks.Semicolon) (lexeme c.args.tokens.now.source) (lexemes c.args.tokens.now) c.loop-behind_semicolon.next c.in_ok-behind_semicolon.ensures c.in_default.is)) refl (λ t. refl) c.in_err-behind_end.ensures) c.from_residual-in_err-behind_end.ensures.1

pub returns-clause-reads : goal.returns-clause-reads
returns-clause-reads c = λ ds hd. let y = c.loop-behind_semicolon.invariant.awaits ds hd in found (lexemes c.args.tokens.now) c.args.cursor c.in_ok-behind_end.behind_end y.1 (omega (arith, c.loop-behind_semicolon.invariant.forward, c.in_ok-behind_end.ensures.place)) (omega (arith, c.in_ok-behind_end.ensures.place, c.in_ok-behind_end.ensures.within)) (seen (unseen (opened y.2) (absent (mark marks.Semicolon) (lexeme c.args.tokens.now.source) (lexemes c.args.tokens.now) c.loop-behind_semicolon.next c.in_ok-behind_semicolon.ensures c.in_default.is)) c.in_ok-behind_end.ensures.takes refl)

pub returns-clause-goes : goal.returns-clause-goes
returns-clause-goes c = record { forward = omega (arith, c.loop-behind_semicolon.invariant.forward, c.in_ok-behind_end.ensures.place); ends = (omega (arith, c.in_ok-behind_end.ensures.place, c.in_ok-behind_end.ensures.within)) }
