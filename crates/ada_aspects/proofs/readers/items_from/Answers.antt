use Rattle.std.proofs.Common.{refl, arith}
use Rattle.ada_tree.specs.declared.token.Mark.TheVariants as marks
use Rattle.ada_grammar.specs.declared.tokens.Class.TheVariants as classes
use Rattle.ada_grammar.specs.Lexemes.{lexeme, lexemes}
use Rattle.ada_grammar.specs.Phrases as phrases
use Rattle.ada_grammar.specs.Parts as parts
use Rattle.ada_grammar.specs.Parts.{mark, word, Gives, Call, Rest}
use Rattle.ada_grammar.proofs.Steps.{start, opened, seen, unseen, done}
use Rattle.ada_grammar.proofs.Answering.{passes_here, misses_here, refuses}
use Rattle.ada_grammar.proofs.Joining.{absent, present, fault_found, found}
use Rattle.ada_grammar.proofs.Standing.{grows_on, holds_on}
use Rattle.ada_aspects.proofs.readers.items_from.Goals as goal

pub returns-in_err-next-clause-reads : goal.returns-in_err-next-clause-reads
returns-in_err-next-clause-reads c = λ ds hd. fault_found (parts.ItemsFrom c.args.span (lexeme c.args.tokens.now.source c.args.name) ds) (lexemes c.args.tokens.now) c.args.cursor _ _ _ _ (refuses (lexemes c.args.tokens.now) c.args.cursor c.args.cursor _ (start (parts.ItemsFrom c.args.span (lexeme c.args.tokens.now.source c.args.name) ds) _) (λ b. refl) (c.in_err-next.ensures.reads _ (c.new-items.ensures _ hd.ordered))) c.from_residual.ensures.1

pub loop-items-init : goal.loop-items-init
loop-items-init c = record { forward = omega (arith, c.in_ok-next.ensures.goes.forward); ends = c.in_ok-next.ensures.goes.ends; grows = c.in_ok-next.ensures.grows; awaits = λ ds hd. let f1 = c.in_ok-next.ensures.reads _ (c.new-items.ensures _ hd.ordered) in ((phrases.with_expr phrases.none f1.phrase.tree), f1.holds, (holds_on f1.holds.ordered c.in_ok-next.ensures.grows hd), (done (start (parts.ItemsFrom c.args.span (lexeme c.args.tokens.now.source c.args.name) ds) _) f1.reads (λ b. refl))) }

pub returns-in_err-behind_comma-clause-reads : goal.returns-in_err-behind_comma-clause-reads
returns-in_err-behind_comma-clause-reads c = λ ds hd. let y = c.loop-items.invariant.awaits ds hd in fault_found (parts.ItemsFrom c.args.span (lexeme c.args.tokens.now.source c.args.name) ds) (lexemes c.args.tokens.now) c.args.cursor _ _ _ _ (passes_here (lexemes c.args.tokens.now) c.args.cursor c.loop-items.next (mark marks.Comma) _ (opened y.3) (λ t. refl) c.in_err-behind_comma.ensures) c.from_residual-in_err-behind_comma.ensures.1

pub returns-in_err-name-clause-reads : goal.returns-in_err-name-clause-reads
returns-in_err-name-clause-reads c = λ ds hd. let y = c.loop-items.invariant.awaits ds hd in fault_found (parts.ItemsFrom c.args.span (lexeme c.args.tokens.now.source c.args.name) ds) (lexemes c.args.tokens.now) c.args.cursor _ _ _ _ (misses_here (lexemes c.args.tokens.now) c.args.cursor c.in-Some.behind_comma classes.Word _ (omega (arith, (present (mark marks.Comma) (lexeme c.args.tokens.now.source) (lexemes c.args.tokens.now) c.loop-items.next c.in_ok-behind_comma.ensures c.in-Some.is).place, (present (mark marks.Comma) (lexeme c.args.tokens.now.source) (lexemes c.args.tokens.now) c.loop-items.next c.in_ok-behind_comma.ensures c.in-Some.is).within)) (seen (opened y.3) (present (mark marks.Comma) (lexeme c.args.tokens.now.source) (lexemes c.args.tokens.now) c.loop-items.next c.in_ok-behind_comma.ensures c.in-Some.is).takes refl) refl (λ t. refl) c.in_err-name.ensures) c.from_residual-in_err-name.ensures.1

pub returns-in_err-next-2-clause-reads : goal.returns-in_err-next-2-clause-reads
returns-in_err-next-2-clause-reads c = λ ds hd. let y = c.loop-items.invariant.awaits ds hd in fault_found (parts.ItemsFrom c.args.span (lexeme c.args.tokens.now.source c.args.name) ds) (lexemes c.args.tokens.now) c.args.cursor _ _ _ _ (refuses (lexemes c.args.tokens.now) c.args.cursor c.in_ok-name.behind_name _ (seen (seen (opened y.3) (present (mark marks.Comma) (lexeme c.args.tokens.now.source) (lexemes c.args.tokens.now) c.loop-items.next c.in_ok-behind_comma.ensures c.in-Some.is).takes refl) c.in_ok-name.ensures.takes refl) (λ b. refl) (c.in_err-next-2.ensures.reads _ y.1)) c.from_residual-in_err-next-2.ensures.1

pub returns-in_err-next-2-clause-grows : goal.returns-in_err-next-2-clause-grows
returns-in_err-next-2-clause-grows c = (grows_on c.loop-items.invariant.grows c.in_err-next-2.ensures.grows)

pub loop-items-preserved : goal.loop-items-preserved
loop-items-preserved c = record { forward = omega (arith, c.loop-items.invariant.forward, (present (mark marks.Comma) (lexeme c.args.tokens.now.source) (lexemes c.args.tokens.now) c.loop-items.next c.in_ok-behind_comma.ensures c.in-Some.is).place, c.in_ok-name.ensures.place, c.in_ok-next-2.ensures.goes.forward); ends = c.in_ok-next-2.ensures.goes.ends; grows = (grows_on c.loop-items.invariant.grows c.in_ok-next-2.ensures.grows); awaits = λ ds hd. let y = c.loop-items.invariant.awaits ds hd in let f2 = c.in_ok-next-2.ensures.reads _ y.1 in ((phrases.with_expr y.0 f2.phrase.tree), f2.holds, (holds_on f2.holds.ordered c.in_ok-next-2.ensures.grows y.2), (done (seen (seen (opened y.3) (present (mark marks.Comma) (lexeme c.args.tokens.now.source) (lexemes c.args.tokens.now) c.loop-items.next c.in_ok-behind_comma.ensures c.in-Some.is).takes refl) c.in_ok-name.ensures.takes refl) f2.reads (λ b. refl))) }

pub loop-items-smaller : goal.loop-items-smaller
loop-items-smaller c = omega (arith, (present (mark marks.Comma) (lexeme c.args.tokens.now.source) (lexemes c.args.tokens.now) c.loop-items.next c.in_ok-behind_comma.ensures c.in-Some.is).place, c.in_ok-name.ensures.place, c.in_ok-next-2.ensures.goes.forward, (present (mark marks.Comma) (lexeme c.args.tokens.now.source) (lexemes c.args.tokens.now) c.loop-items.next c.in_ok-behind_comma.ensures c.in-Some.is).within)

pub returns-in_err-behind_end-clause-reads : goal.returns-in_err-behind_end-clause-reads
returns-in_err-behind_end-clause-reads c = λ ds hd. let y = c.loop-items.invariant.awaits ds hd in fault_found (parts.ItemsFrom c.args.span (lexeme c.args.tokens.now.source c.args.name) ds) (lexemes c.args.tokens.now) c.args.cursor _ _ _ _ (misses_here (lexemes c.args.tokens.now) c.args.cursor c.loop-items.next (mark marks.Close) _ c.loop-items.invariant.ends (unseen (opened y.3) (absent (mark marks.Comma) (lexeme c.args.tokens.now.source) (lexemes c.args.tokens.now) c.loop-items.next c.in_ok-behind_comma.ensures c.in_default.is)) refl (λ t. refl) c.in_err-behind_end.ensures) c.from_residual-in_err-behind_end.ensures.1

pub returns-in_err-add_aspect-clause-grows : goal.returns-in_err-add_aspect-clause-grows
returns-in_err-add_aspect-clause-grows c = (grows_on c.loop-items.invariant.grows c.in_err-add_aspect.ensures.grows)

pub returns-clause-reads : goal.returns-clause-reads
returns-clause-reads c = λ ds hd. let y = c.loop-items.invariant.awaits ds hd in found (lexemes c.args.tokens.now) c.args.cursor c.in_ok-behind_end.behind_end (c.in_ok-add_aspect.ensures.builds _ _ y.1 y.2) (omega (arith, c.loop-items.invariant.forward, c.in_ok-behind_end.ensures.place)) (omega (arith, c.in_ok-behind_end.ensures.place, c.in_ok-behind_end.ensures.within)) (seen (unseen (opened y.3) (absent (mark marks.Comma) (lexeme c.args.tokens.now.source) (lexemes c.args.tokens.now) c.loop-items.next c.in_ok-behind_comma.ensures c.in_default.is)) c.in_ok-behind_end.ensures.takes refl)

pub returns-clause-goes : goal.returns-clause-goes
returns-clause-goes c = record { forward = omega (arith, c.loop-items.invariant.forward, c.in_ok-behind_end.ensures.place); ends = (omega (arith, c.in_ok-behind_end.ensures.place, c.in_ok-behind_end.ensures.within)) }

pub returns-clause-grows : goal.returns-clause-grows
returns-clause-grows c = (grows_on c.loop-items.invariant.grows c.in_ok-add_aspect.ensures.grows)
