use Rattle.std.proofs.Common.{refl, arith}
use Rattle.ada_tree.specs.declared.token.Mark.TheVariants as marks
use Rattle.ada_grammar.specs.declared.tokens.Class.TheVariants as classes
use Rattle.ada_grammar.specs.Lexemes.{lexeme, lexemes}
use Rattle.ada_grammar.specs.Parts as parts
use Rattle.ada_grammar.specs.Parts.{mark, Rest}
use Rattle.ada_grammar.proofs.NodeTrees.{extends_on, extends_same}
use Rattle.ada_grammar.proofs.Steps.{seen, unseen, opened, whole, go_as}
use Rattle.ada_grammar.proofs.Answering.{misses, passes}
use Rattle.ada_grammar.proofs.Joining.{absent, present}
use Rattle.ada_exprs.proofs.readers.read_points.Goals as goal

pub loop-behind-init : goal.loop-behind-init
loop-behind-init c = record { within = c.requires.left; forward = omega arith; ends = c.requires.at; extends = extends_same _; awaits = whole _ _ }

pub returns-in_err-behind-clause-reads : goal.returns-in_err-behind-clause-reads
returns-in_err-behind-clause-reads c = passes (lexemes c.args.tokens.now) c.args.cursor c.loop-behind.next (mark marks.Dot) _ _ _ (opened c.loop-behind.invariant.awaits) (λ t. refl) c.in_err-behind.ensures c.from_residual.ensures.1

pub returns-in_err-token-clause-reads : goal.returns-in_err-token-clause-reads
returns-in_err-token-clause-reads c = misses (lexemes c.args.tokens.now) c.args.cursor c.in-Some.behind classes.Word _ _ _ (omega (arith, (present (mark marks.Dot) (lexeme c.args.tokens.now.source) (lexemes c.args.tokens.now) c.loop-behind.next c.in_ok-behind.ensures c.in-Some.is).place, (present (mark marks.Dot) (lexeme c.args.tokens.now.source) (lexemes c.args.tokens.now) c.loop-behind.next c.in_ok-behind.ensures c.in-Some.is).within)) (seen (opened c.loop-behind.invariant.awaits) (present (mark marks.Dot) (lexeme c.args.tokens.now.source) (lexemes c.args.tokens.now) c.loop-behind.next c.in_ok-behind.ensures c.in-Some.is).takes refl) refl (λ t. refl) c.in_err-token.ensures c.from_residual-in_err-token.ensures.1

pub loop-behind-preserved : goal.loop-behind-preserved
loop-behind-preserved c = record { within = c.in_ok-left.ensures.within; forward = omega (arith, c.loop-behind.invariant.forward, (present (mark marks.Dot) (lexeme c.args.tokens.now.source) (lexemes c.args.tokens.now) c.loop-behind.next c.in_ok-behind.ensures c.in-Some.is).place, c.in_ok-token.ensures.place); ends = omega (arith, c.in_ok-token.ensures.place, c.in_ok-token.ensures.within); extends = extends_on c.loop-behind.invariant.extends c.add_selected.ensures.extends; awaits = go_as (λ z. Rest (parts.Points z)) c.in_ok-left.ensures.builds (seen (seen (opened c.loop-behind.invariant.awaits) (present (mark marks.Dot) (lexeme c.args.tokens.now.source) (lexemes c.args.tokens.now) c.loop-behind.next c.in_ok-behind.ensures c.in-Some.is).takes refl) c.in_ok-token.ensures.takes refl) }

pub returns-clause-reads : goal.returns-clause-reads
returns-clause-reads c = record { within = c.loop-behind.invariant.within; forward = c.loop-behind.invariant.forward; ends = c.loop-behind.invariant.ends; reads = unseen (opened c.loop-behind.invariant.awaits) (absent (mark marks.Dot) (lexeme c.args.tokens.now.source) (lexemes c.args.tokens.now) c.loop-behind.next c.in_ok-behind.ensures c.in_default.is) }
