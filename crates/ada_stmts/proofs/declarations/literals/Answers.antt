use Rattle.std.proofs.Common.{refl, map, arith, ap}
use Rattle.ada_tree.specs.declared.token.Mark.TheVariants as marks
use Rattle.ada_tree.specs.declared.declarations.DeclKind.TheVariants as decls
use Rattle.ada_grammar.specs.declared.tokens.Class.TheVariants as classes
use Rattle.ada_grammar.specs.Lexemes.{lexeme, lexemes}
use Rattle.ada_grammar.specs.Phrases as phrases
use Rattle.ada_grammar.specs.Parts as parts
use Rattle.ada_grammar.specs.Parts.{mark, word, Gives, Call, Rest}
use Rattle.ada_grammar.proofs.Steps.{start, opened, seen, unseen}
use Rattle.ada_grammar.proofs.Answering.{passes_here, misses_here}
use Rattle.ada_grammar.proofs.Joining.{rest_as, absent, present, fault_found, finds_last, goes_on}
use Rattle.ada_grammar.proofs.Standing.{grows_on, holds_on}
use Rattle.ada_stmts.proofs.declarations.literals.Goals as goal

pub returns-in_err-first-clause-reads : goal.returns-in_err-first-clause-reads
returns-in_err-first-clause-reads c = λ ds hd. fault_found (parts.Literals (lexeme c.args.tokens.now.source c.args.name) ds) (lexemes c.args.tokens.now) c.args.cursor _ _ _ _ (misses_here (lexemes c.args.tokens.now) c.args.cursor c.args.cursor classes.Word _ c.requires.at (start (parts.Literals (lexeme c.args.tokens.now.source c.args.name) ds) _) refl (λ t. refl) c.in_err-first.ensures) c.from_residual.ensures.1

pub loop-own-init : goal.loop-own-init
loop-own-init c = record { forward = omega (arith, c.in_ok-first.ensures.place); ends = (omega (arith, c.in_ok-first.ensures.place, c.in_ok-first.ensures.within)); grows = c.in_ok-literal.ensures.grows; awaits = λ ds hd. let b1 = c.in_ok-literal.ensures.builds _ (c.new-own.ensures _ hd.ordered) in ((phrases.declared decls.EnumerationLiteral (lexeme c.args.tokens.now.source c.in_ok-first.first) phrases.none phrases.none), b1, (holds_on b1.ordered c.in_ok-literal.ensures.grows hd), (seen (start (parts.Literals (lexeme c.args.tokens.now.source c.args.name) ds) _) c.in_ok-first.ensures.takes refl)) }

pub returns-in_err-behind_comma-clause-reads : goal.returns-in_err-behind_comma-clause-reads
returns-in_err-behind_comma-clause-reads c = λ ds hd. let y = c.loop-own.invariant.awaits ds hd in fault_found (parts.Literals (lexeme c.args.tokens.now.source c.args.name) ds) (lexemes c.args.tokens.now) c.args.cursor _ _ _ _ (passes_here (lexemes c.args.tokens.now) c.args.cursor c.loop-own.next (mark marks.Comma) _ (opened y.3) (λ t. refl) c.in_err-behind_comma.ensures) c.from_residual-in_err-behind_comma.ensures.1

pub returns-in_err-further-clause-reads : goal.returns-in_err-further-clause-reads
returns-in_err-further-clause-reads c = λ ds hd. let y = c.loop-own.invariant.awaits ds hd in fault_found (parts.Literals (lexeme c.args.tokens.now.source c.args.name) ds) (lexemes c.args.tokens.now) c.args.cursor _ _ _ _ (misses_here (lexemes c.args.tokens.now) c.args.cursor c.in-Some.behind_comma classes.Word _ (omega (arith, (present (mark marks.Comma) (lexeme c.args.tokens.now.source) (lexemes c.args.tokens.now) c.loop-own.next c.in_ok-behind_comma.ensures c.in-Some.is).place, (present (mark marks.Comma) (lexeme c.args.tokens.now.source) (lexemes c.args.tokens.now) c.loop-own.next c.in_ok-behind_comma.ensures c.in-Some.is).within)) (seen (opened y.3) (present (mark marks.Comma) (lexeme c.args.tokens.now.source) (lexemes c.args.tokens.now) c.loop-own.next c.in_ok-behind_comma.ensures c.in-Some.is).takes refl) refl (λ t. refl) c.in_err-further.ensures) c.from_residual-in_err-further.ensures.1

pub returns-in_err-literal-2-clause-grows : goal.returns-in_err-literal-2-clause-grows
returns-in_err-literal-2-clause-grows c = (grows_on c.loop-own.invariant.grows c.in_err-literal-2.ensures.grows)

pub loop-own-preserved : goal.loop-own-preserved
loop-own-preserved c = record { forward = omega (arith, c.loop-own.invariant.forward, (present (mark marks.Comma) (lexeme c.args.tokens.now.source) (lexemes c.args.tokens.now) c.loop-own.next c.in_ok-behind_comma.ensures c.in-Some.is).place, c.in_ok-further.ensures.place); ends = (omega (arith, c.in_ok-further.ensures.place, c.in_ok-further.ensures.within)); grows = (grows_on c.loop-own.invariant.grows c.in_ok-literal-2.ensures.grows); awaits = λ ds hd. let y = c.loop-own.invariant.awaits ds hd in let b1 = c.in_ok-literal-2.ensures.builds _ y.1 in ((phrases.declared decls.EnumerationLiteral (lexeme c.args.tokens.now.source c.in_ok-further.further) phrases.none y.0), b1, (holds_on b1.ordered c.in_ok-literal-2.ensures.grows y.2), (seen (seen (opened y.3) (present (mark marks.Comma) (lexeme c.args.tokens.now.source) (lexemes c.args.tokens.now) c.loop-own.next c.in_ok-behind_comma.ensures c.in-Some.is).takes refl) c.in_ok-further.ensures.takes refl)) }

pub loop-own-smaller : goal.loop-own-smaller
loop-own-smaller c = omega (arith, (present (mark marks.Comma) (lexeme c.args.tokens.now.source) (lexemes c.args.tokens.now) c.loop-own.next c.in_ok-behind_comma.ensures c.in-Some.is).place, c.in_ok-further.ensures.place, (present (mark marks.Comma) (lexeme c.args.tokens.now.source) (lexemes c.args.tokens.now) c.loop-own.next c.in_ok-behind_comma.ensures c.in-Some.is).within)

pub returns-in_err-behind_end-clause-reads : goal.returns-in_err-behind_end-clause-reads
returns-in_err-behind_end-clause-reads c = λ ds hd. let y = c.loop-own.invariant.awaits ds hd in fault_found (parts.Literals (lexeme c.args.tokens.now.source c.args.name) ds) (lexemes c.args.tokens.now) c.args.cursor _ _ _ _ (misses_here (lexemes c.args.tokens.now) c.args.cursor c.loop-own.next (mark marks.Close) _ c.loop-own.invariant.ends (unseen (opened y.3) (absent (mark marks.Comma) (lexeme c.args.tokens.now.source) (lexemes c.args.tokens.now) c.loop-own.next c.in_ok-behind_comma.ensures c.in_default.is)) refl (λ t. refl) c.in_err-behind_end.ensures) c.from_residual-in_err-behind_end.ensures.1

pub returns-clause-reads : goal.returns-clause-reads
returns-clause-reads c = λ ds hd. let y = c.loop-own.invariant.awaits ds hd in finds_last (lexemes c.args.tokens.now) c.args.cursor c.in_ok-behind_end.behind_end _ _ _ (rest_as (λ z. parts.Closing decls.EnumerationType z y.0 ds) (ap (λ z. map (lexeme c.args.tokens.now.source) z) c.in_ok-names.ensures) (seen (unseen (opened y.3) (absent (mark marks.Comma) (lexeme c.args.tokens.now.source) (lexemes c.args.tokens.now) c.loop-own.next c.in_ok-behind_comma.ensures c.in_default.is)) c.in_ok-behind_end.ensures.takes refl)) (omega (arith, c.loop-own.invariant.forward, c.in_ok-behind_end.ensures.place)) refl (c.closing.ensures.reads _ _ y.1 y.2)

pub returns-clause-goes : goal.returns-clause-goes
returns-clause-goes c = goes_on (lexemes c.args.tokens.now) c.args.cursor c.in_ok-behind_end.behind_end _ (omega (arith, c.loop-own.invariant.forward, c.in_ok-behind_end.ensures.place)) c.closing.ensures.goes

pub returns-clause-grows : goal.returns-clause-grows
returns-clause-grows c = (grows_on c.loop-own.invariant.grows c.closing.ensures.grows)
