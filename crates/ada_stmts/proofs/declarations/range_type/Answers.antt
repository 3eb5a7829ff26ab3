use Rattle.std.proofs.Common.{refl, map, arith, ap}
use Rattle.ada_tree.specs.declared.token.Mark.TheVariants as marks
use Rattle.ada_tree.specs.declared.declarations.DeclKind.TheVariants as decls
use Rattle.ada_grammar.specs.Lexemes.{lexeme, lexemes}
use Rattle.ada_grammar.specs.Phrases as phrases
use Rattle.ada_grammar.specs.Parts as parts
use Rattle.ada_grammar.specs.Parts.{mark, word, Gives, Call, Rest}
use Rattle.ada_grammar.proofs.Steps.{start, seen, done}
use Rattle.ada_grammar.proofs.Answering.{misses_here, refuses}
use Rattle.ada_grammar.proofs.Joining.{rest_as, fault_found, finds_last, goes_on}
use Rattle.ada_grammar.proofs.Standing.{grows_on, holds_on}
use Rattle.ada_stmts.proofs.declarations.range_type.Goals as goal

pub returns-in_err-behind_bound-clause-reads : goal.returns-in_err-behind_bound-clause-reads
returns-in_err-behind_bound-clause-reads c = λ ds hd. fault_found (parts.RangeType (lexeme c.args.tokens.now.source c.args.name) ds) (lexemes c.args.tokens.now) c.args.cursor _ _ _ _ (refuses (lexemes c.args.tokens.now) c.args.cursor c.args.cursor _ (start (parts.RangeType (lexeme c.args.tokens.now.source c.args.name) ds) _) (λ b. refl) (c.in_err-behind_bound.ensures.reads _ (c.new-own.ensures _ hd.ordered))) c.from_residual.ensures.1

pub returns-in_err-behind_dots-clause-reads : goal.returns-in_err-behind_dots-clause-reads
returns-in_err-behind_dots-clause-reads c = λ ds hd. let f1 = c.in_ok-behind_bound.ensures.reads _ (c.new-own.ensures _ hd.ordered) in fault_found (parts.RangeType (lexeme c.args.tokens.now.source c.args.name) ds) (lexemes c.args.tokens.now) c.args.cursor _ _ _ _ (misses_here (lexemes c.args.tokens.now) c.args.cursor c.in_ok-behind_bound.behind_bound (mark marks.Dots) _ c.in_ok-behind_bound.ensures.goes.ends (done (start (parts.RangeType (lexeme c.args.tokens.now.source c.args.name) ds) _) f1.reads (λ b. refl)) refl (λ t. refl) c.in_err-behind_dots.ensures) c.from_residual-in_err-behind_dots.ensures.1

pub returns-in_err-behind_bound_2-clause-reads : goal.returns-in_err-behind_bound_2-clause-reads
returns-in_err-behind_bound_2-clause-reads c = λ ds hd. let f1 = c.in_ok-behind_bound.ensures.reads _ (c.new-own.ensures _ hd.ordered) in fault_found (parts.RangeType (lexeme c.args.tokens.now.source c.args.name) ds) (lexemes c.args.tokens.now) c.args.cursor _ _ _ _ (refuses (lexemes c.args.tokens.now) c.args.cursor c.in_ok-behind_dots.behind_dots _ (seen (done (start (parts.RangeType (lexeme c.args.tokens.now.source c.args.name) ds) _) f1.reads (λ b. refl)) c.in_ok-behind_dots.ensures.takes refl) (λ b. refl) (c.in_err-behind_bound_2.ensures.reads _ f1.holds)) c.from_residual-in_err-behind_bound_2.ensures.1

pub returns-in_err-behind_bound_2-clause-grows : goal.returns-in_err-behind_bound_2-clause-grows
returns-in_err-behind_bound_2-clause-grows c = (grows_on c.in_ok-behind_bound.ensures.grows c.in_err-behind_bound_2.ensures.grows)

pub returns-in_err-names-clause-grows : goal.returns-in_err-names-clause-grows
returns-in_err-names-clause-grows c = (grows_on c.in_ok-behind_bound.ensures.grows c.in_ok-behind_bound_2.ensures.grows)

pub returns-clause-reads : goal.returns-clause-reads
returns-clause-reads c = λ ds hd. let f1 = c.in_ok-behind_bound.ensures.reads _ (c.new-own.ensures _ hd.ordered) in let f2 = c.in_ok-behind_bound_2.ensures.reads _ f1.holds in finds_last (lexemes c.args.tokens.now) c.args.cursor c.in_ok-behind_bound_2.behind_bound_2 _ _ _ (rest_as (λ z. parts.Closing decls.RangeType z (phrases.with_expr (phrases.with_expr phrases.none f1.phrase.tree) f2.phrase.tree) ds) (ap (λ z. map (lexeme c.args.tokens.now.source) z) c.in_ok-names.ensures) (done (seen (done (start (parts.RangeType (lexeme c.args.tokens.now.source c.args.name) ds) _) f1.reads (λ b. refl)) c.in_ok-behind_dots.ensures.takes refl) f2.reads (λ b. refl))) (omega (arith, c.in_ok-behind_bound.ensures.goes.forward, c.in_ok-behind_dots.ensures.place, c.in_ok-behind_bound_2.ensures.goes.forward)) refl (c.closing.ensures.reads _ _ f2.holds (holds_on f2.holds.ordered c.in_ok-behind_bound_2.ensures.grows (holds_on f1.holds.ordered c.in_ok-behind_bound.ensures.grows hd)))

pub returns-clause-goes : goal.returns-clause-goes
returns-clause-goes c = goes_on (lexemes c.args.tokens.now) c.args.cursor c.in_ok-behind_bound_2.behind_bound_2 _ (omega (arith, c.in_ok-behind_bound.ensures.goes.forward, c.in_ok-behind_dots.ensures.place, c.in_ok-behind_bound_2.ensures.goes.forward)) c.closing.ensures.goes

pub returns-clause-grows : goal.returns-clause-grows
returns-clause-grows c = (grows_on (grows_on c.in_ok-behind_bound.ensures.grows c.in_ok-behind_bound_2.ensures.grows) c.closing.ensures.grows)
