use Rattle.ada_tree.specs.Identifiers.{mode_named}
use Rattle.std.proofs.Common.{refl, arith}
use Rattle.ada_tree.specs.declared.token.Mark.TheVariants as marks
use Rattle.ada_tree.specs.declared.aspects.AspectKind.TheVariants as aspects
use Rattle.ada_grammar.specs.declared.tokens.Class.TheVariants as classes
use Rattle.ada_grammar.specs.Lexemes.{lexeme, lexemes}
use Rattle.ada_grammar.specs.Phrases as phrases
use Rattle.ada_grammar.specs.Parts as parts
use Rattle.ada_grammar.specs.Parts.{mark, word, Gives, Call, Rest}
use Rattle.ada_grammar.proofs.Steps.{start, opened, seen, unseen, done}
use Rattle.ada_grammar.proofs.Answering.{passes_here, misses_here, refuses}
use Rattle.ada_grammar.proofs.Joining.{holds_as, absent, present, fault_found, found}
use Rattle.ada_grammar.proofs.Standing.{grows_on, holds_on}
use Rattle.ada_aspects.proofs.readers.modes_from.Goals as goal

pub returns-in_err-behind_null_or_items-clause-reads : goal.returns-in_err-behind_null_or_items-clause-reads
returns-in_err-behind_null_or_items-clause-reads c = λ ds hd. fault_found (parts.ModesFrom (lexeme c.args.tokens.now.source c.args.name) ds) (lexemes c.args.tokens.now) c.args.cursor _ _ _ _ (refuses (lexemes c.args.tokens.now) c.args.cursor c.args.cursor _ (start (parts.ModesFrom (lexeme c.args.tokens.now.source c.args.name) ds) _) (λ b. refl) (c.in_err-behind_null_or_items.ensures.reads _ (c.new-items.ensures _ hd.ordered))) c.from_residual.ensures.1

pub returns-in_err-add_named_aspect-clause-grows : goal.returns-in_err-add_named_aspect-clause-grows
returns-in_err-add_named_aspect-clause-grows c = (grows_on c.in_ok-behind_null_or_items.ensures.grows c.in_err-add_named_aspect.ensures.grows)

pub loop-behind_comma-init : goal.loop-behind_comma-init
loop-behind_comma-init c = record { forward = omega (arith, c.in_ok-behind_null_or_items.ensures.goes.forward); ends = c.in_ok-behind_null_or_items.ensures.goes.ends; grows = (grows_on c.in_ok-behind_null_or_items.ensures.grows c.in_ok-add_named_aspect.ensures.grows); awaits = λ ds hd. let f1 = c.in_ok-behind_null_or_items.ensures.reads _ (c.new-items.ensures _ hd.ordered) in ((phrases.named_aspect (aspects.Mode (mode_named (lexeme c.args.tokens.now.source c.args.name).text)) (lexeme c.args.tokens.now.source c.args.name) f1.children ds), (holds_as (λ k. phrases.named_aspect (aspects.Mode k) (lexeme c.args.tokens.now.source c.args.name) f1.children ds) c.mode_named.ensures (c.in_ok-add_named_aspect.ensures.builds _ _ f1.holds (holds_on f1.holds.ordered c.in_ok-behind_null_or_items.ensures.grows hd))), (done (start (parts.ModesFrom (lexeme c.args.tokens.now.source c.args.name) ds) _) f1.reads (λ b. refl))) }

pub returns-in_err-behind_comma-clause-reads : goal.returns-in_err-behind_comma-clause-reads
returns-in_err-behind_comma-clause-reads c = λ ds hd. let y = c.loop-behind_comma.invariant.awaits ds hd in fault_found (parts.ModesFrom (lexeme c.args.tokens.now.source c.args.name) ds) (lexemes c.args.tokens.now) c.args.cursor _ _ _ _ (passes_here (lexemes c.args.tokens.now) c.args.cursor c.loop-behind_comma.next (mark marks.Comma) _ (opened y.2) (λ t. refl) c.in_err-behind_comma.ensures) c.from_residual-in_err-behind_comma.ensures.1

pub returns-in_err-name-clause-reads : goal.returns-in_err-name-clause-reads
returns-in_err-name-clause-reads c = λ ds hd. let y = c.loop-behind_comma.invariant.awaits ds hd in fault_found (parts.ModesFrom (lexeme c.args.tokens.now.source c.args.name) ds) (lexemes c.args.tokens.now) c.args.cursor _ _ _ _ (misses_here (lexemes c.args.tokens.now) c.args.cursor c.in-Some.behind_comma classes.Mode _ (omega (arith, (present (mark marks.Comma) (lexeme c.args.tokens.now.source) (lexemes c.args.tokens.now) c.loop-behind_comma.next c.in_ok-behind_comma.ensures c.in-Some.is).place, (present (mark marks.Comma) (lexeme c.args.tokens.now.source) (lexemes c.args.tokens.now) c.loop-behind_comma.next c.in_ok-behind_comma.ensures c.in-Some.is).within)) (seen (opened y.2) (present (mark marks.Comma) (lexeme c.args.tokens.now.source) (lexemes c.args.tokens.now) c.loop-behind_comma.next c.in_ok-behind_comma.ensures c.in-Some.is).takes refl) refl (λ t. refl) c.in_err-name.ensures) c.from_residual-in_err-name.ensures.1

pub returns-in_err-behind_arrow-clause-reads : goal.returns-in_err-behind_arrow-clause-reads
returns-in_err-behind_arrow-clause-reads c = λ ds hd. let y = c.loop-behind_comma.invariant.awaits ds hd in fault_found (parts.ModesFrom (lexeme c.args.tokens.now.source c.args.name) ds) (lexemes c.args.tokens.now) c.args.cursor _ _ _ _ (misses_here (lexemes c.args.tokens.now) c.args.cursor c.in_ok-name.behind_name (mark marks.Arrow) _ (omega (arith, c.in_ok-name.ensures.place, c.in_ok-name.ensures.within)) (seen (seen (opened y.2) (present (mark marks.Comma) (lexeme c.args.tokens.now.source) (lexemes c.args.tokens.now) c.loop-behind_comma.next c.in_ok-behind_comma.ensures c.in-Some.is).takes refl) c.in_ok-name.ensures.takes refl) refl (λ t. refl) c.in_err-behind_arrow.ensures) c.from_residual-in_err-behind_arrow.ensures.1

pub returns-in_err-behind_null_or_items_2-clause-reads : goal.returns-in_err-behind_null_or_items_2-clause-reads
returns-in_err-behind_null_or_items_2-clause-reads c = λ ds hd. let y = c.loop-behind_comma.invariant.awaits ds hd in fault_found (parts.ModesFrom (lexeme c.args.tokens.now.source c.args.name) ds) (lexemes c.args.tokens.now) c.args.cursor _ _ _ _ (refuses (lexemes c.args.tokens.now) c.args.cursor c.in_ok-behind_arrow.behind_arrow _ (seen (seen (seen (opened y.2) (present (mark marks.Comma) (lexeme c.args.tokens.now.source) (lexemes c.args.tokens.now) c.loop-behind_comma.next c.in_ok-behind_comma.ensures c.in-Some.is).takes refl) c.in_ok-name.ensures.takes refl) c.in_ok-behind_arrow.ensures.takes refl) (λ b. refl) (c.in_err-behind_null_or_items_2.ensures.reads _ (c.new-items-in-Some.ensures _ y.1.ordered))) c.from_residual-in_err-behind_null_or_items_2.ensures.1

pub returns-in_err-behind_null_or_items_2-clause-grows : goal.returns-in_err-behind_null_or_items_2-clause-grows
returns-in_err-behind_null_or_items_2-clause-grows c = (grows_on c.loop-behind_comma.invariant.grows c.in_err-behind_null_or_items_2.ensures.grows)

pub returns-in_err-add_named_aspect-2-clause-grows : goal.returns-in_err-add_named_aspect-2-clause-grows
returns-in_err-add_named_aspect-2-clause-grows c = (grows_on (grows_on c.loop-behind_comma.invariant.grows c.in_ok-behind_null_or_items_2.ensures.grows) c.in_err-add_named_aspect-2.ensures.grows)

pub loop-behind_comma-preserved : goal.loop-behind_comma-preserved
loop-behind_comma-preserved c = record { forward = omega (arith, c.loop-behind_comma.invariant.forward, (present (mark marks.Comma) (lexeme c.args.tokens.now.source) (lexemes c.args.tokens.now) c.loop-behind_comma.next c.in_ok-behind_comma.ensures c.in-Some.is).place, c.in_ok-name.ensures.place, c.in_ok-behind_arrow.ensures.place, c.in_ok-behind_null_or_items_2.ensures.goes.forward); ends = c.in_ok-behind_null_or_items_2.ensures.goes.ends; grows = (grows_on (grows_on c.loop-behind_comma.invariant.grows c.in_ok-behind_null_or_items_2.ensures.grows) c.in_ok-add_named_aspect-2.ensures.grows); awaits = λ ds hd. let y = c.loop-behind_comma.invariant.awaits ds hd in let f2 = c.in_ok-behind_null_or_items_2.ensures.reads _ (c.new-items-in-Some.ensures _ y.1.ordered) in ((phrases.named_aspect (aspects.Mode (mode_named (lexeme c.args.tokens.now.source c.in_ok-name.name).text)) (lexeme c.args.tokens.now.source c.in_ok-name.name) f2.children y.0), (holds_as (λ k. phrases.named_aspect (aspects.Mode k) (lexeme c.args.tokens.now.source c.in_ok-name.name) f2.children y.0) c.mode_named-in-Some.ensures (c.in_ok-add_named_aspect-2.ensures.builds _ _ f2.holds (holds_on f2.holds.ordered c.in_ok-behind_null_or_items_2.ensures.grows y.1))), (done (seen (seen (seen (opened y.2) (present (mark marks.Comma) (lexeme c.args.tokens.now.source) (lexemes c.args.tokens.now) c.loop-behind_comma.next c.in_ok-behind_comma.ensures c.in-Some.is).takes refl) c.in_ok-name.ensures.takes refl) c.in_ok-behind_arrow.ensures.takes refl) f2.reads (λ b. refl))) }

pub loop-behind_comma-smaller : goal.loop-behind_comma-smaller
loop-behind_comma-smaller c = omega (arith, (present (mark marks.Comma) (lexeme c.args.tokens.now.source) (lexemes c.args.tokens.now) c.loop-behind_comma.next c.in_ok-behind_comma.ensures c.in-Some.is).place, c.in_ok-name.ensures.place, c.in_ok-behind_arrow.ensures.place, c.in_ok-behind_null_or_items_2.ensures.goes.forward, (present (mark marks.Comma) (lexeme c.args.tokens.now.source) (lexemes c.args.tokens.now) c.loop-behind_comma.next c.in_ok-behind_comma.ensures c.in-Some.is).within)

pub returns-in_err-behind_end-clause-reads : goal.returns-in_err-behind_end-clause-reads
returns-in_err-behind_end-clause-reads c = λ ds hd. let y = c.loop-behind_comma.invariant.awaits ds hd in fault_found (parts.ModesFrom (lexeme c.args.tokens.now.source c.args.name) ds) (lexemes c.args.tokens.now) c.args.cursor _ _ _ _ (misses_here (lexemes c.args.tokens.now) c.args.cursor c.loop-behind_comma.next (mark marks.Close) _ c.loop-behind_comma.invariant.ends (unseen (opened y.2) (absent (mark marks.Comma) (lexeme c.args.tokens.now.source) (lexemes c.args.tokens.now) c.loop-behind_comma.next c.in_ok-behind_comma.ensures c.in_default.is)) refl (λ t. refl) c.in_err-behind_end.ensures) c.from_residual-in_err-behind_end.ensures.1

pub returns-clause-reads : goal.returns-clause-reads
returns-clause-reads c = λ ds hd. let y = c.loop-behind_comma.invariant.awaits ds hd in found (lexemes c.args.tokens.now) c.args.cursor c.in_ok-behind_end.behind_end y.1 (omega (arith, c.loop-behind_comma.invariant.forward, c.in_ok-behind_end.ensures.place)) (omega (arith, c.in_ok-behind_end.ensures.place, c.in_ok-behind_end.ensures.within)) (seen (unseen (opened y.2) (absent (mark marks.Comma) (lexeme c.args.tokens.now.source) (lexemes c.args.tokens.now) c.loop-behind_comma.next c.in_ok-behind_comma.ensures c.in_default.is)) c.in_ok-behind_end.ensures.takes refl)

pub returns-clause-goes : goal.returns-clause-goes
returns-clause-goes c = record { forward = omega (arith, c.loop-behind_comma.invariant.forward, c.in_ok-behind_end.ensures.place); ends = (omega (arith, c.in_ok-behind_end.ensures.place, c.in_ok-behind_end.ensures.within)) }
