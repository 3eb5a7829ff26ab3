use Rattle.std.proofs.Common.{refl, arith}
use Rattle.ada_tree.specs.declared.token.Mark.TheVariants as marks
use Rattle.ada_grammar.specs.Lexemes.{lexeme, lexemes}
use Rattle.ada_grammar.specs.Parts as parts
use Rattle.ada_grammar.specs.Parts.{mark, word, Gives, Call, Rest}
use Rattle.ada_grammar.proofs.Steps.{start, seen, unseen, done}
use Rattle.ada_grammar.proofs.Answering.{passes_here, misses_here, refuses}
use Rattle.ada_grammar.proofs.Joining.{absent, present, fault_found, found}
use Rattle.ada_grammar.proofs.Standing.{grows_on, holds_on}
use Rattle.ada_aspects.proofs.readers.dependency.Goals as goal

pub returns-in_err-behind_null_or_items-clause-reads : goal.returns-in_err-behind_null_or_items-clause-reads
returns-in_err-behind_null_or_items-clause-reads c = λ ds hd. fault_found (parts.Dependency ds) (lexemes c.args.tokens.now) c.args.cursor _ _ _ _ (refuses (lexemes c.args.tokens.now) c.args.cursor c.args.cursor _ (start (parts.Dependency ds) _) (λ b. refl) (c.in_err-behind_null_or_items.ensures.reads _ (c.new-sides.ensures _ hd.ordered))) c.from_residual.ensures.1

pub returns-in_err-arrow-clause-reads : goal.returns-in_err-arrow-clause-reads
returns-in_err-arrow-clause-reads c = λ ds hd. let f1 = c.in_ok-behind_null_or_items.ensures.reads _ (c.new-sides.ensures _ hd.ordered) in fault_found (parts.Dependency ds) (lexemes c.args.tokens.now) c.args.cursor _ _ _ _ (misses_here (lexemes c.args.tokens.now) c.args.cursor c.in_ok-behind_null_or_items.behind_null_or_items (mark marks.Arrow) _ c.in_ok-behind_null_or_items.ensures.goes.ends (done (start (parts.Dependency ds) _) f1.reads (λ b. refl)) refl (λ t. refl) c.in_err-arrow.ensures) c.from_residual-in_err-arrow.ensures.1

pub returns-in_err-behind_plus-clause-reads : goal.returns-in_err-behind_plus-clause-reads
returns-in_err-behind_plus-clause-reads c = λ ds hd. let f1 = c.in_ok-behind_null_or_items.ensures.reads _ (c.new-sides.ensures _ hd.ordered) in fault_found (parts.Dependency ds) (lexemes c.args.tokens.now) c.args.cursor _ _ _ _ (passes_here (lexemes c.args.tokens.now) c.args.cursor c.in_ok-arrow.behind_arrow (mark marks.Plus) _ (seen (done (start (parts.Dependency ds) _) f1.reads (λ b. refl)) c.in_ok-arrow.ensures.takes refl) (λ t. refl) c.in_err-behind_plus.ensures) c.from_residual-in_err-behind_plus.ensures.1

pub returns-in_err-behind_null_or_items_2-clause-reads : goal.returns-in_err-behind_null_or_items_2-clause-reads
returns-in_err-behind_null_or_items_2-clause-reads c = λ ds hd. let f1 = c.in_ok-behind_null_or_items.ensures.reads _ (c.new-sides.ensures _ hd.ordered) in fault_found (parts.Dependency ds) (lexemes c.args.tokens.now) c.args.cursor _ _ _ _ (refuses (lexemes c.args.tokens.now) c.args.cursor c.in-Some.behind_plus _ (seen (seen (done (start (parts.Dependency ds) _) f1.reads (λ b. refl)) c.in_ok-arrow.ensures.takes refl) (present (mark marks.Plus) (lexeme c.args.tokens.now.source) (lexemes c.args.tokens.now) c.in_ok-arrow.behind_arrow c.in_ok-behind_plus.ensures c.in-Some.is).takes refl) (λ b. refl) (c.in_err-behind_null_or_items_2.ensures.reads _ f1.holds)) c.from_residual-in_err-behind_null_or_items_2.ensures.1

pub returns-in_err-behind_null_or_items_2-clause-grows : goal.returns-in_err-behind_null_or_items_2-clause-grows
returns-in_err-behind_null_or_items_2-clause-grows c = (grows_on c.in_ok-behind_null_or_items.ensures.grows c.in_err-behind_null_or_items_2.ensures.grows)

pub returns-in_err-add_aspect-clause-grows : goal.returns-in_err-add_aspect-clause-grows
returns-in_err-add_aspect-clause-grows c = (grows_on (grows_on c.in_ok-behind_null_or_items.ensures.grows c.in_ok-behind_null_or_items_2.ensures.grows) c.in_err-add_aspect.ensures.grows)

pub returns-in-Some-clause-reads : goal.returns-in-Some-clause-reads
returns-in-Some-clause-reads c = λ ds hd. let f1 = c.in_ok-behind_null_or_items.ensures.reads _ (c.new-sides.ensures _ hd.ordered) in let f2 = c.in_ok-behind_null_or_items_2.ensures.reads _ f1.holds in found (lexemes c.args.tokens.now) c.args.cursor c.in_ok-behind_null_or_items_2.behind_null_or_items_2 (c.in_ok-add_aspect.ensures.builds _ _ f2.holds (holds_on f2.holds.ordered c.in_ok-behind_null_or_items_2.ensures.grows (holds_on f1.holds.ordered c.in_ok-behind_null_or_items.ensures.grows hd))) (omega (arith, c.in_ok-behind_null_or_items.ensures.goes.forward, c.in_ok-arrow.ensures.place, (present (mark marks.Plus) (lexeme c.args.tokens.now.source) (lexemes c.args.tokens.now) c.in_ok-arrow.behind_arrow c.in_ok-behind_plus.ensures c.in-Some.is).place, c.in_ok-behind_null_or_items_2.ensures.goes.forward)) c.in_ok-behind_null_or_items_2.ensures.goes.ends (done (seen (seen (done (start (parts.Dependency ds) _) f1.reads (λ b. refl)) c.in_ok-arrow.ensures.takes refl) (present (mark marks.Plus) (lexeme c.args.tokens.now.source) (lexemes c.args.tokens.now) c.in_ok-arrow.behind_arrow c.in_ok-behind_plus.ensures c.in-Some.is).takes refl) f2.reads (λ b. refl))

pub returns-in-Some-clause-goes : goal.returns-in-Some-clause-goes
returns-in-Some-clause-goes c = record { forward = omega (arith, c.in_ok-behind_null_or_items.ensures.goes.forward, c.in_ok-arrow.ensures.place, (present (mark marks.Plus) (lexeme c.args.tokens.now.source) (lexemes c.args.tokens.now) c.in_ok-arrow.behind_arrow c.in_ok-behind_plus.ensures c.in-Some.is).place, c.in_ok-behind_null_or_items_2.ensures.goes.forward); ends = c.in_ok-behind_null_or_items_2.ensures.goes.ends }

pub returns-in-Some-clause-grows : goal.returns-in-Some-clause-grows
returns-in-Some-clause-grows c = (grows_on (grows_on c.in_ok-behind_null_or_items.ensures.grows c.in_ok-behind_null_or_items_2.ensures.grows) c.in_ok-add_aspect.ensures.grows)

pub returns-in_err-behind_null_or_items_3-clause-reads : goal.returns-in_err-behind_null_or_items_3-clause-reads
returns-in_err-behind_null_or_items_3-clause-reads c = λ ds hd. let f1 = c.in_ok-behind_null_or_items.ensures.reads _ (c.new-sides.ensures _ hd.ordered) in fault_found (parts.Dependency ds) (lexemes c.args.tokens.now) c.args.cursor _ _ _ _ (refuses (lexemes c.args.tokens.now) c.args.cursor c.in_ok-arrow.behind_arrow _ (unseen (seen (done (start (parts.Dependency ds) _) f1.reads (λ b. refl)) c.in_ok-arrow.ensures.takes refl) (absent (mark marks.Plus) (lexeme c.args.tokens.now.source) (lexemes c.args.tokens.now) c.in_ok-arrow.behind_arrow c.in_ok-behind_plus.ensures c.in_default.is)) (λ b. refl) (c.in_err-behind_null_or_items_3.ensures.reads _ f1.holds)) c.from_residual-in_err-behind_null_or_items_3.ensures.1

pub returns-in_err-behind_null_or_items_3-clause-grows : goal.returns-in_err-behind_null_or_items_3-clause-grows
returns-in_err-behind_null_or_items_3-clause-grows c = (grows_on c.in_ok-behind_null_or_items.ensures.grows c.in_err-behind_null_or_items_3.ensures.grows)

pub returns-in_err-add_aspect-2-clause-grows : goal.returns-in_err-add_aspect-2-clause-grows
returns-in_err-add_aspect-2-clause-grows c = (grows_on (grows_on c.in_ok-behind_null_or_items.ensures.grows c.in_ok-behind_null_or_items_3.ensures.grows) c.in_err-add_aspect-2.ensures.grows)

pub returns-clause-reads : goal.returns-clause-reads
returns-clause-reads c = λ ds hd. let f1 = c.in_ok-behind_null_or_items.ensures.reads _ (c.new-sides.ensures _ hd.ordered) in let f2 = c.in_ok-behind_null_or_items_3.ensures.reads _ f1.holds in found (lexemes c.args.tokens.now) c.args.cursor c.in_ok-behind_null_or_items_3.behind_null_or_items_3 (c.in_ok-add_aspect-2.ensures.builds _ _ f2.holds (holds_on f2.holds.ordered c.in_ok-behind_null_or_items_3.ensures.grows (holds_on f1.holds.ordered c.in_ok-behind_null_or_items.ensures.grows hd))) (omega (arith, c.in_ok-behind_null_or_items.ensures.goes.forward, c.in_ok-arrow.ensures.place, c.in_ok-behind_null_or_items_3.ensures.goes.forward)) c.in_ok-behind_null_or_items_3.ensures.goes.ends (done (unseen (seen (done (start (parts.Dependency ds) _) f1.reads (λ b. refl)) c.in_ok-arrow.ensures.takes refl) (absent (mark marks.Plus) (lexeme c.args.tokens.now.source) (lexemes c.args.tokens.now) c.in_ok-arrow.behind_arrow c.in_ok-behind_plus.ensures c.in_default.is)) f2.reads (λ b. refl))

pub returns-clause-goes : goal.returns-clause-goes
returns-clause-goes c = record { forward = omega (arith, c.in_ok-behind_null_or_items.ensures.goes.forward, c.in_ok-arrow.ensures.place, c.in_ok-behind_null_or_items_3.ensures.goes.forward); ends = c.in_ok-behind_null_or_items_3.ensures.goes.ends }

pub returns-clause-grows : goal.returns-clause-grows
returns-clause-grows c = (grows_on (grows_on c.in_ok-behind_null_or_items.ensures.grows c.in_ok-behind_null_or_items_3.ensures.grows) c.in_ok-add_aspect-2.ensures.grows)
