use Rattle.std.proofs.Common.{[], ◌∷◌, refl, sym, arith}
use Rattle.ada_tree.specs.declared.token.Mark.TheVariants as marks
use Rattle.ada_tree.specs.declared.expressions.ExprKind.TheVariants as kinds
use Rattle.ada_grammar.specs.declared.nodes.Form.TheVariants as forms
use Rattle.ada_grammar.specs.Lexemes.{lexeme, lexemes}
use Rattle.ada_grammar.specs.Built.{trees, phrase}
use Rattle.ada_grammar.specs.Parts as parts
use Rattle.ada_grammar.specs.Parts.{mark, word, Gives, Rest, Call}
use Rattle.ada_grammar.proofs.NodeTrees.{extends_on, within_on}
use Rattle.ada_grammar.proofs.Steps.{start, seen, unseen, decided, declined, done, go_as}
use Rattle.ada_grammar.proofs.Answering.{fails, answers, passes}
use Rattle.ada_exprs.proofs.Found.{over_one, over_two}
use Rattle.ada_grammar.proofs.Joining.{absent, present}
use Rattle.ada_exprs.proofs.readers.read_drange.Goals as goal

pub returns-in_err-low-clause-reads : goal.returns-in_err-low-clause-reads
returns-in_err-low-clause-reads c = fails (lexemes c.args.tokens.now) c.args.cursor c.args.cursor _ _ _ (start parts.Drange _) (λ b. refl) c.in_err-low.ensures.reads c.from_residual.ensures.1

pub returns-in_err-behind-clause-reads : goal.returns-in_err-behind-clause-reads
returns-in_err-behind-clause-reads c = passes (lexemes c.args.tokens.now) c.args.cursor c.in_ok-low.next (mark marks.Dots) _ _ _ (done (start parts.Drange _) c.in_ok-low.ensures.reads.reads (λ b. refl)) (λ t. refl) c.in_err-behind.ensures c.from_residual-in_err-behind.ensures.1

pub returns-in_err-high-clause-extends : goal.returns-in_err-high-clause-extends
returns-in_err-high-clause-extends c = extends_on (c.read_simple.ensures.extends) c.read_simple-in-Some.ensures.extends

pub returns-in_err-high-clause-reads : goal.returns-in_err-high-clause-reads
returns-in_err-high-clause-reads c = fails (lexemes c.args.tokens.now) c.args.cursor c.in-Some.behind _ _ _ (seen (done (start parts.Drange _) c.in_ok-low.ensures.reads.reads (λ b. refl)) (present (mark marks.Dots) (lexeme c.args.tokens.now.source) (lexemes c.args.tokens.now) c.in_ok-low.next c.in_ok-behind.ensures c.in-Some.is).takes refl) (λ b. refl) c.in_err-high.ensures.reads c.from_residual-in_err-high.ensures.1

pub add_two-requires-clause-a : goal.add_two-requires-clause-a
add_two-requires-clause-a c = within_on c.read_simple-in-Some.ensures.extends c.in_ok-low.ensures.reads.within

pub returns-in-Some-clause-extends : goal.returns-in-Some-clause-extends
returns-in-Some-clause-extends c = extends_on (extends_on (c.read_simple.ensures.extends) c.read_simple-in-Some.ensures.extends) c.add_two.ensures.extends

pub returns-in-Some-clause-reads : goal.returns-in-Some-clause-reads
returns-in-Some-clause-reads c = record { within = c.in_ok-node.ensures.within; forward = omega (arith, c.in_ok-low.ensures.reads.forward, (present (mark marks.Dots) (lexeme c.args.tokens.now.source) (lexemes c.args.tokens.now) c.in_ok-low.next c.in_ok-behind.ensures c.in-Some.is).place, c.in_ok-high.ensures.reads.forward); ends = c.in_ok-high.ensures.reads.ends; reads = go_as Gives (over_two c.read_simple.new.exprs c.read_simple-in-Some.new.exprs forms.Simple kinds.BoundsRange c.in_ok-low.low c.in_ok-high.high c.in_ok-node.ensures.builds refl c.join-span.ensures c.read_simple-in-Some.ensures.extends c.in_ok-low.ensures.reads.within) (done (seen (done (start parts.Drange _) c.in_ok-low.ensures.reads.reads (λ b. refl)) (present (mark marks.Dots) (lexeme c.args.tokens.now.source) (lexemes c.args.tokens.now) c.in_ok-low.next c.in_ok-behind.ensures c.in-Some.is).takes refl) c.in_ok-high.ensures.reads.reads (λ b. refl)) }

pub returns-then-is_mark-clause-extends : goal.returns-then-is_mark-clause-extends
returns-then-is_mark-clause-extends c = extends_on (c.read_simple.ensures.extends) c.rest_of_subtype.ensures.extends

pub returns-then-is_mark-clause-reads : goal.returns-then-is_mark-clause-reads
returns-then-is_mark-clause-reads c = answers (lexemes c.args.tokens.now) c.args.cursor c.in_ok-low.next _ _ (decided (unseen (done (start parts.Drange _) c.in_ok-low.ensures.reads.reads (λ b. refl)) (absent (mark marks.Dots) (lexeme c.args.tokens.now.source) (lexemes c.args.tokens.now) c.in_ok-low.next c.in_ok-behind.ensures c.in_default.is)) (sym c.if-is_mark.ensures)) c.in_ok-low.ensures.reads.forward refl c.rest_of_subtype.ensures.reads

pub returns-then-not-is_range-clause-reads : goal.returns-then-not-is_range-clause-reads
returns-then-not-is_range-clause-reads c = record { ends = c.in_ok-low.ensures.reads.ends; level = c.in_ok-low.next.nesting; sticks = declined (declined (unseen (done (start parts.Drange _) c.in_ok-low.ensures.reads.reads (λ b. refl)) (absent (mark marks.Dots) (lexeme c.args.tokens.now.source) (lexemes c.args.tokens.now) c.in_ok-low.next c.in_ok-behind.ensures c.in_default.is)) (sym c.if-is_mark.ensures)) (sym c.if-not-is_range.ensures) }

pub returns-clause-extends : goal.returns-clause-extends
returns-clause-extends c = extends_on (c.read_simple.ensures.extends) c.add_one.ensures.extends

pub returns-clause-reads : goal.returns-clause-reads
returns-clause-reads c = record { within = c.in_ok-node-2.ensures.within; forward = omega (arith, c.in_ok-low.ensures.reads.forward); ends = c.in_ok-low.ensures.reads.ends; reads = go_as Gives (over_one forms.Simple kinds.AttributeRange ((phrase (trees c.read_simple.new.exprs) c.in_ok-low.low).tree ∷ []) c.in_ok-low.low.span c.in_ok-node-2.ensures.builds refl refl) (decided (declined (unseen (done (start parts.Drange _) c.in_ok-low.ensures.reads.reads (λ b. refl)) (absent (mark marks.Dots) (lexeme c.args.tokens.now.source) (lexemes c.args.tokens.now) c.in_ok-low.next c.in_ok-behind.ensures c.in_default.is)) (sym c.if-is_mark.ensures)) (sym c.if-not-is_range.ensures)) }
