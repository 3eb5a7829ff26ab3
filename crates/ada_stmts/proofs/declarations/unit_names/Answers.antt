use Rattle.std.proofs.Common.{refl, arith}
use Rattle.ada_tree.specs.declared.token.Mark.TheVariants as marks
use Rattle.ada_grammar.specs.Lexemes.{lexeme, lexemes}
use Rattle.ada_grammar.specs.Phrases as phrases
use Rattle.ada_grammar.specs.Parts as parts
use Rattle.ada_grammar.specs.Parts.{mark, word, Gives, Call, Rest}
use Rattle.ada_grammar.proofs.Steps.{start, opened, seen, unseen, done}
use Rattle.ada_grammar.proofs.Answering.{passes_here, misses_here, refuses}
use Rattle.ada_grammar.proofs.Joining.{absent, present, fault_found, found}
use Rattle.ada_grammar.proofs.Standing.{grows_on, holds_on}
use Rattle.ada_stmts.proofs.declarations.unit_names.Goals as goal

pub returns-in_err-next-clause-reads : goal.returns-in_err-next-clause-reads
returns-in_err-next-clause-reads c = λ ds hd. fault_found (parts.UnitNames c.args.kind c.args.span ds) (lexemes c.args.tokens.now) c.args.cursor _ _ _ _ (refuses (lexemes c.args.tokens.now) c.args.cursor c.args.cursor _ (start (parts.UnitNames c.args.kind c.args.span ds) _) (λ b. refl) (c.in_err-next.ensures.reads _ (c.new-own.ensures _ hd.ordered))) c.from_residual.ensures.1

pub loop-own-init : goal.loop-own-init
loop-own-init c = record { forward = omega (arith, c.in_ok-next.ensures.goes.forward); ends = c.in_ok-next.ensures.goes.ends; grows = c.in_ok-next.ensures.grows; awaits = λ ds hd. let f1 = c.in_ok-next.ensures.reads _ (c.new-own.ensures _ hd.ordered) in ((phrases.with_expr phrases.none f1.phrase.tree), f1.holds, (holds_on f1.holds.ordered c.in_ok-next.ensures.grows hd), (done (start (parts.UnitNames c.args.kind c.args.span ds) _) f1.reads (λ b. refl))) }

pub returns-in_err-behind_comma-clause-reads : goal.returns-in_err-behind_comma-clause-reads
returns-in_err-behind_comma-clause-reads c = λ ds hd. let y = c.loop-own.invariant.awaits ds hd in fault_found (parts.UnitNames c.args.kind c.args.span ds) (lexemes c.args.tokens.now) c.args.cursor _ _ _ _ (passes_here (lexemes c.args.tokens.now) c.args.cursor c.loop-own.next (mark marks.Comma) _ (opened y.3) (λ t. refl) c.in_err-behind_comma.ensures) c.from_residual-in_err-behind_comma.ensures.1

pub returns-in_err-next-2-clause-reads : goal.returns-in_err-next-2-clause-reads
returns-in_err-next-2-clause-reads c = λ ds hd. let y = c.loop-own.invariant.awaits ds hd in fault_found (parts.UnitNames c.args.kind c.args.span ds) (lexemes c.args.tokens.now) c.args.cursor _ _ _ _ (refuses (lexemes c.args.tokens.now) c.args.cursor c.in-Some.behind_comma _ (seen (opened y.3) (present (mark marks.Comma) (lexeme c.args.tokens.now.source) (lexemes c.args.tokens.now) c.loop-own.next c.in_ok-behind_comma.ensures c.in-Some.is).takes refl) (λ b. refl) (c.in_err-next-2.ensures.reads _ y.1)) c.from_residual-in_err-next-2.ensures.1

pub returns-in_err-next-2-clause-grows : goal.returns-in_err-next-2-clause-grows
returns-in_err-next-2-clause-grows c = (grows_on c.loop-own.invariant.grows c.in_err-next-2.ensures.grows)

pub loop-own-preserved : goal.loop-own-preserved
loop-own-preserved c = record { forward = omega (arith, c.loop-own.invariant.forward, (present (mark marks.Comma) (lexeme c.args.tokens.now.source) (lexemes c.args.tokens.now) c.loop-own.next c.in_ok-behind_comma.ensures c.in-Some.is).place, c.in_ok-next-2.ensures.goes.forward); ends = c.in_ok-next-2.ensures.goes.ends; grows = (grows_on c.loop-own.invariant.grows c.in_ok-next-2.ensures.grows); awaits = λ ds hd. let y = c.loop-own.invariant.awaits ds hd in let f2 = c.in_ok-next-2.ensures.reads _ y.1 in ((phrases.with_expr y.0 f2.phrase.tree), f2.holds, (holds_on f2.holds.ordered c.in_ok-next-2.ensures.grows y.2), (done (seen (opened y.3) (present (mark marks.Comma) (lexeme c.args.tokens.now.source) (lexemes c.args.tokens.now) c.loop-own.next c.in_ok-behind_comma.ensures c.in-Some.is).takes refl) f2.reads (λ b. refl))) }

pub loop-own-smaller : goal.loop-own-smaller
loop-own-smaller c = omega (arith, (present (mark marks.Comma) (lexeme c.args.tokens.now.source) (lexemes c.args.tokens.now) c.loop-own.next c.in_ok-behind_comma.ensures c.in-Some.is).place, c.in_ok-next-2.ensures.goes.forward, (present (mark marks.Comma) (lexeme c.args.tokens.now.source) (lexemes c.args.tokens.now) c.loop-own.next c.in_ok-behind_comma.ensures c.in-Some.is).within)

pub returns-in_err-behind_end-clause-reads : goal.returns-in_err-behind_end-clause-reads
returns-in_err-behind_end-clause-reads c = λ ds hd. let y = c.loop-own.invariant.awaits ds hd in fault_found (parts.UnitNames c.args.kind c.args.span ds) (lexemes c.args.tokens.now) c.args.cursor _ _ _ _ (misses_here (lexemes c.args.tokens.now) c.args.cursor c.loop-own.next (mark marks.Semicolon) _ c.loop-own.invariant.ends (unseen (opened y.3) (absent (mark marks.Comma) (lexeme c.args.tokens.now.source) (lexemes c.args.tokens.now) c.loop-own.next c.in_ok-behind_comma.ensures c.in_default.is)) refl (λ t. refl) c.in_err-behind_end.ensures) c.from_residual-in_err-behind_end.ensures.1

pub returns-in_err-add_declaration-clause-grows : goal.returns-in_err-add_declaration-clause-grows
returns-in_err-add_declaration-clause-grows c = (grows_on c.loop-own.invariant.grows c.in_err-add_declaration.ensures.grows)

pub returns-clause-reads : goal.returns-clause-reads
returns-clause-reads c = λ ds hd. let y = c.loop-own.invariant.awaits ds hd in found (lexemes c.args.tokens.now) c.args.cursor c.in_ok-behind_end.behind_end (c.in_ok-add_declaration.ensures.builds _ _ y.1 y.2) (omega (arith, c.loop-own.invariant.forward, c.in_ok-behind_end.ensures.place)) (omega (arith, c.in_ok-behind_end.ensures.place, c.in_ok-behind_end.ensures.within)) (seen (unseen (opened y.3) (absent (mark marks.Comma) (lexeme c.args.tokens.now.source) (lexemes c.args.tokens.now) c.loop-own.next c.in_ok-behind_comma.ensures c.in_default.is)) c.in_ok-behind_end.ensures.takes refl)

pub returns-clause-goes : goal.returns-clause-goes
returns-clause-goes c = record { forward = omega (arith, c.loop-own.invariant.forward, c.in_ok-behind_end.ensures.place); ends = (omega (arith, c.in_ok-behind_end.ensures.place, c.in_ok-behind_end.ensures.within)) }

pub returns-clause-grows : goal.returns-clause-grows
returns-clause-grows c = (grows_on c.loop-own.invariant.grows c.in_ok-add_declaration.ensures.grows)
