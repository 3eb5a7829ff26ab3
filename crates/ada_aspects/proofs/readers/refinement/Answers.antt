use Rattle.std.proofs.Common.{refl, arith}
use Rattle.ada_tree.specs.declared.token.Mark.TheVariants as marks
use Rattle.ada_grammar.specs.declared.tokens.Class.TheVariants as classes
use Rattle.ada_grammar.specs.Lexemes.{lexemes}
use Rattle.ada_grammar.specs.Parts as parts
use Rattle.ada_grammar.specs.Parts.{mark, word, Gives, Call, Rest}
use Rattle.ada_grammar.proofs.Steps.{start, seen, done}
use Rattle.ada_grammar.proofs.Answering.{misses_here, refuses}
use Rattle.ada_grammar.proofs.Joining.{fault_found, found}
use Rattle.ada_grammar.proofs.Standing.{grows_on, holds_on}
use Rattle.ada_aspects.proofs.readers.refinement.Goals as goal

pub returns-in_err-name-clause-reads : goal.returns-in_err-name-clause-reads
returns-in_err-name-clause-reads c = λ ds hd. fault_found (parts.Refinement ds) (lexemes c.args.tokens.now) c.args.cursor _ _ _ _ (misses_here (lexemes c.args.tokens.now) c.args.cursor c.args.cursor classes.Word _ c.requires.at (start (parts.Refinement ds) _) refl (λ t. refl) c.in_err-name.ensures) c.from_residual.ensures.1

pub returns-in_err-behind_whole_name-clause-reads : goal.returns-in_err-behind_whole_name-clause-reads
returns-in_err-behind_whole_name-clause-reads c = λ ds hd. fault_found (parts.Refinement ds) (lexemes c.args.tokens.now) c.args.cursor _ _ _ _ (refuses (lexemes c.args.tokens.now) c.args.cursor c.in_ok-name.behind_name _ (seen (start (parts.Refinement ds) _) c.in_ok-name.ensures.takes refl) (λ b. refl) (c.in_err-behind_whole_name.ensures.reads _ (c.new-sides.ensures _ hd.ordered))) c.from_residual-in_err-behind_whole_name.ensures.1

pub returns-in_err-behind_arrow-clause-reads : goal.returns-in_err-behind_arrow-clause-reads
returns-in_err-behind_arrow-clause-reads c = λ ds hd. let f1 = c.in_ok-behind_whole_name.ensures.reads _ (c.new-sides.ensures _ hd.ordered) in fault_found (parts.Refinement ds) (lexemes c.args.tokens.now) c.args.cursor _ _ _ _ (misses_here (lexemes c.args.tokens.now) c.args.cursor c.in_ok-behind_whole_name.behind_whole_name (mark marks.Arrow) _ c.in_ok-behind_whole_name.ensures.goes.ends (done (seen (start (parts.Refinement ds) _) c.in_ok-name.ensures.takes refl) f1.reads (λ b. refl)) refl (λ t. refl) c.in_err-behind_arrow.ensures) c.from_residual-in_err-behind_arrow.ensures.1

pub returns-in_err-behind_null_or_items-clause-reads : goal.returns-in_err-behind_null_or_items-clause-reads
returns-in_err-behind_null_or_items-clause-reads c = λ ds hd. let f1 = c.in_ok-behind_whole_name.ensures.reads _ (c.new-sides.ensures _ hd.ordered) in fault_found (parts.Refinement ds) (lexemes c.args.tokens.now) c.args.cursor _ _ _ _ (refuses (lexemes c.args.tokens.now) c.args.cursor c.in_ok-behind_arrow.behind_arrow _ (seen (done (seen (start (parts.Refinement ds) _) c.in_ok-name.ensures.takes refl) f1.reads (λ b. refl)) c.in_ok-behind_arrow.ensures.takes refl) (λ b. refl) (c.in_err-behind_null_or_items.ensures.reads _ f1.holds)) c.from_residual-in_err-behind_null_or_items.ensures.1

pub returns-in_err-behind_null_or_items-clause-grows : goal.returns-in_err-behind_null_or_items-clause-grows
returns-in_err-behind_null_or_items-clause-grows c = (grows_on c.in_ok-behind_whole_name.ensures.grows c.in_err-behind_null_or_items.ensures.grows)

pub returns-in_err-add_aspect-clause-grows : goal.returns-in_err-add_aspect-clause-grows
returns-in_err-add_aspect-clause-grows c = (grows_on (grows_on c.in_ok-behind_whole_name.ensures.grows c.in_ok-behind_null_or_items.ensures.grows) c.in_err-add_aspect.ensures.grows)

pub returns-clause-reads : goal.returns-clause-reads
returns-clause-reads c = λ ds hd. let f1 = c.in_ok-behind_whole_name.ensures.reads _ (c.new-sides.ensures _ hd.ordered) in let f2 = c.in_ok-behind_null_or_items.ensures.reads _ f1.holds in found (lexemes c.args.tokens.now) c.args.cursor c.in_ok-behind_null_or_items.behind_null_or_items (c.in_ok-add_aspect.ensures.builds _ _ f2.holds (holds_on f2.holds.ordered c.in_ok-behind_null_or_items.ensures.grows (holds_on f1.holds.ordered c.in_ok-behind_whole_name.ensures.grows hd))) (omega (arith, c.in_ok-name.ensures.place, c.in_ok-behind_whole_name.ensures.goes.forward, c.in_ok-behind_arrow.ensures.place, c.in_ok-behind_null_or_items.ensures.goes.forward)) c.in_ok-behind_null_or_items.ensures.goes.ends (done (seen (done (seen (start (parts.Refinement ds) _) c.in_ok-name.ensures.takes refl) f1.reads (λ b. refl)) c.in_ok-behind_arrow.ensures.takes refl) f2.reads (λ b. refl))

pub returns-clause-goes : goal.returns-clause-goes
returns-clause-goes c = record { forward = omega (arith, c.in_ok-name.ensures.place, c.in_ok-behind_whole_name.ensures.goes.forward, c.in_ok-behind_arrow.ensures.place, c.in_ok-behind_null_or_items.ensures.goes.forward); ends = c.in_ok-behind_null_or_items.ensures.goes.ends }

pub returns-clause-grows : goal.returns-clause-grows
returns-clause-grows c = (grows_on (grows_on c.in_ok-behind_whole_name.ensures.grows c.in_ok-behind_null_or_items.ensures.grows) c.in_ok-add_aspect.ensures.grows)
