use Rattle.ada_grammar.specs.Parts as parts
use Rattle.ada_grammar.specs.Phrases as phrases
use Rattle.ada_grammar.specs.declared.nodes.Form.TheVariants as forms
use Rattle.ada_grammar.specs.declared.tokens.Class.TheVariants as classes
use Rattle.ada_tree.specs.declared.expressions.ExprKind.TheVariants as kinds
use Rattle.ada_tree.specs.declared.token.Mark.TheVariants as marks
use Rattle.ada_tree.specs.declared.words.Reserved.TheVariants as words
use Rattle.ada_exprs.proofs.Found.{below_one, below_two, hands_on, linked_by, named_none, opened_by, over_none, over_one, over_three, over_two, phrase_stays, stays_first, suffixed, tick_not, trees_one, trees_two, unlinked, unopened, unsuffixed}
use Rattle.ada_grammar.proofs.Joining.{absent, present, rest_as}
use Rattle.ada_exprs.proofs.Suffixing.{by_tick, dotted, ends, may_open, refuses, refuses_last, suffix_not, ticked, untied}
use Rattle.ada_grammar.proofs.Answering.{answers, fails, fails_last, misses, misses_here, passes, passes_here}
use Rattle.ada_grammar.proofs.NodeTrees.{extends_on, extends_same, items_below, items_more, within_on}
use Rattle.ada_grammar.proofs.Steps.{decided, declined, done, go_as, opened, seen, start, tail, unseen, whole}
use Rattle.ada_grammar.specs.Built.{phrase, tree_at, trees, trees_at}
use Rattle.ada_grammar.specs.Parts.{Call, Gives, Rest, mark, word}
use Rattle.ada_grammar.specs.Lexemes.{lexeme, lexemes}
use Rattle.ada_grammar.specs.Phrases.{Tree}
use Rattle.ada_tree.specs.declared.expressions.AddingOperator.{AddingOperator}
use Rattle.ada_tree.specs.declared.expressions.MultiplyingOperator.{MultiplyingOperator}
use Rattle.ada_tree.specs.declared.expressions.RelationalOperator.{RelationalOperator}
use Rattle.std.proofs.Common.{List, [], ap, arith, false, refl, sym, true, ℕ, ◌++◌, ◌∙◌, ◌∷◌}
use Rattle.ada_exprs.proofs.readers.+exprs.Goals as goal

pub read_expr-returns-in_err-left-clause-reads : goal.read_expr-returns-in_err-left-clause-reads
read_expr-returns-in_err-left-clause-reads t c = fails (lexemes c.args.tokens.now) c.args.cursor c.args.cursor _ _ _ (start parts.Expr _) (λ b. refl) c.in_err-left.ensures.reads c.from_residual.ensures.1

pub read_expr-returns-clause-extends : goal.read_expr-returns-clause-extends
read_expr-returns-clause-extends t c = extends_on (c.read_simple.ensures.extends) c.continue_expr.ensures.extends

pub read_expr-returns-clause-reads : goal.read_expr-returns-clause-reads
read_expr-returns-clause-reads t c = answers (lexemes c.args.tokens.now) c.args.cursor c.in_ok-left.next _ _ (done (start parts.Expr _) c.in_ok-left.ensures.reads.reads (λ b. refl)) c.in_ok-left.ensures.reads.forward refl c.continue_expr.ensures.reads

pub continue_expr-returns-in_err-left-clause-reads : goal.continue_expr-returns-in_err-left-clause-reads
continue_expr-returns-in_err-left-clause-reads t c = fails (lexemes c.args.tokens.now) c.args.cursor c.args.cursor _ _ _ (start (parts.Continued _) _) (λ b. refl) c.in_err-left.ensures.reads c.from_residual.ensures.1

pub continue_expr-returns-clause-extends : goal.continue_expr-returns-clause-extends
continue_expr-returns-clause-extends t c = extends_on (c.rest_of_rel.ensures.extends) c.rest_of_expr.ensures.extends

pub continue_expr-returns-clause-reads : goal.continue_expr-returns-clause-reads
continue_expr-returns-clause-reads t c = answers (lexemes c.args.tokens.now) c.args.cursor c.in_ok-left.next _ _ (done (start (parts.Continued _) _) c.in_ok-left.ensures.reads.reads (λ b. refl)) c.in_ok-left.ensures.reads.forward refl c.rest_of_expr.ensures.reads

pub rest_of_expr-returns-in_err-operator-clause-reads : goal.rest_of_expr-returns-in_err-operator-clause-reads
rest_of_expr-returns-in_err-operator-clause-reads t c = hands_on (parts.RestOfExpr (phrase (trees c.args.exprs.now) c.args.left)) (lexemes c.args.tokens.now) c.args.cursor _ _ _ (c.in_err-operator.ensures (phrase (trees c.args.exprs.now) c.args.left)) c.from_residual.ensures.1

pub rest_of_expr-returns-in_default-clause-reads : goal.rest_of_expr-returns-in_default-clause-reads
rest_of_expr-returns-in_default-clause-reads t c = record { within = c.requires.left; forward = omega arith; ends = c.requires.at; reads = unopened (lexeme c.args.tokens.now.source) (lexemes c.args.tokens.now) c.args.cursor c.in_ok-operator.ensures c.in_default.is (phrase (trees c.args.exprs.now) c.args.left) }

pub rest_of_expr-returns-in_err-left-clause-reads : goal.rest_of_expr-returns-in_err-left-clause-reads
rest_of_expr-returns-in_err-left-clause-reads t c = fails (lexemes c.args.tokens.now) c.args.cursor c.in-Some.next _ _ _ (opened ((opened_by (lexeme c.args.tokens.now.source) (lexemes c.args.tokens.now) c.args.cursor c.in_ok-operator.ensures c.in-Some.is).awaits (phrase (trees c.args.exprs.now) c.args.left))) (λ b. refl) c.in_err-left.ensures.reads c.from_residual-in_err-left.ensures.1

pub rest_of_expr-loop-token-init : goal.rest_of_expr-loop-token-init
rest_of_expr-loop-token-init t c = record { within = c.in_ok-left.ensures.reads.within; forward = omega (arith, (opened_by (lexeme c.args.tokens.now.source) (lexemes c.args.tokens.now) c.args.cursor c.in_ok-operator.ensures c.in-Some.is).forward, c.in_ok-left.ensures.reads.forward); ends = c.in_ok-left.ensures.reads.ends; extends = c.right_side.ensures.extends; awaits = done (opened ((opened_by (lexeme c.args.tokens.now.source) (lexemes c.args.tokens.now) c.args.cursor c.in_ok-operator.ensures c.in-Some.is).awaits (phrase (trees c.args.exprs.now) c.args.left))) c.in_ok-left.ensures.reads.reads (λ b. refl) }

pub rest_of_expr-returns-in_err-token-clause-extends : goal.rest_of_expr-returns-in_err-token-clause-extends
rest_of_expr-returns-in_err-token-clause-extends t c = c.loop-token.invariant.extends

pub rest_of_expr-returns-in_err-token-clause-reads : goal.rest_of_expr-returns-in_err-token-clause-reads
rest_of_expr-returns-in_err-token-clause-reads t c = fails_last (lexemes c.args.tokens.now) c.args.cursor c.loop-token.cursor _ _ _ c.loop-token.invariant.awaits refl (c.in_err-token.ensures (phrase (trees c.loop-token.exprs) c.loop-token.left)) c.from_residual-in_err-token.ensures.1

pub rest_of_expr-returns-in_err-left-2-clause-extends : goal.rest_of_expr-returns-in_err-left-2-clause-extends
rest_of_expr-returns-in_err-left-2-clause-extends t c = extends_on c.loop-token.invariant.extends c.right_side-in-Some-2.ensures.extends

pub rest_of_expr-returns-in_err-left-2-clause-reads : goal.rest_of_expr-returns-in_err-left-2-clause-reads
rest_of_expr-returns-in_err-left-2-clause-reads t c = fails (lexemes c.args.tokens.now) c.args.cursor c.in-Some-2.next _ _ _ (tail c.loop-token.invariant.awaits ((linked_by c.in-Some.operator (lexeme c.args.tokens.now.source) (lexemes c.args.tokens.now) c.loop-token.cursor c.in_ok-token.ensures c.in-Some-2.is).awaits (phrase (trees c.loop-token.exprs) c.loop-token.left)) refl) (λ b. refl) c.in_err-left-2.ensures.reads c.from_residual-in_err-left-2.ensures.1

pub rest_of_expr-loop-token-preserved : goal.rest_of_expr-loop-token-preserved
rest_of_expr-loop-token-preserved t c = record { within = c.in_ok-left-2.ensures.reads.within; forward = omega (arith, c.loop-token.invariant.forward, (linked_by c.in-Some.operator (lexeme c.args.tokens.now.source) (lexemes c.args.tokens.now) c.loop-token.cursor c.in_ok-token.ensures c.in-Some-2.is).forward, c.in_ok-left-2.ensures.reads.forward); ends = c.in_ok-left-2.ensures.reads.ends; extends = extends_on c.loop-token.invariant.extends c.right_side-in-Some-2.ensures.extends; awaits = done (tail c.loop-token.invariant.awaits ((linked_by c.in-Some.operator (lexeme c.args.tokens.now.source) (lexemes c.args.tokens.now) c.loop-token.cursor c.in_ok-token.ensures c.in-Some-2.is).awaits (phrase (trees c.loop-token.exprs) c.loop-token.left)) refl) c.in_ok-left-2.ensures.reads.reads (λ b. refl) }

pub rest_of_expr-returns-clause-extends : goal.rest_of_expr-returns-clause-extends
rest_of_expr-returns-clause-extends t c = c.loop-token.invariant.extends

pub rest_of_expr-returns-clause-reads : goal.rest_of_expr-returns-clause-reads
rest_of_expr-returns-clause-reads t c = record { within = c.loop-token.invariant.within; forward = c.loop-token.invariant.forward; ends = c.loop-token.invariant.ends; reads = tail c.loop-token.invariant.awaits (unlinked c.in-Some.operator (lexeme c.args.tokens.now.source) (lexemes c.args.tokens.now) c.loop-token.cursor c.in_ok-token.ensures c.in_default-2.is (phrase (trees c.loop-token.exprs) c.loop-token.left)) refl }

pub right_side-returns-in_err-right-clause-reads : goal.right_side-returns-in_err-right-clause-reads
right_side-returns-in_err-right-clause-reads t c = fails (lexemes c.args.tokens.now) c.args.cursor c.args.cursor _ _ _ (start (parts.Begun _ _ _) _) (λ b. refl) c.in_err-right.ensures.reads c.from_residual.ensures.1

pub right_side-add_two-requires-clause-a : goal.right_side-add_two-requires-clause-a
right_side-add_two-requires-clause-a t c = within_on c.read_rel.ensures.extends c.requires.left

pub right_side-returns-clause-extends : goal.right_side-returns-clause-extends
right_side-returns-clause-extends t c = extends_on (c.read_rel.ensures.extends) c.add_two.ensures.extends

pub right_side-returns-clause-reads : goal.right_side-returns-clause-reads
right_side-returns-clause-reads t c = record { within = c.in_ok-node.ensures.within; forward = omega (arith, c.in_ok-right.ensures.reads.forward); ends = c.in_ok-right.ensures.reads.ends; reads = go_as Gives (over_two c.args.exprs.now c.read_rel.new.exprs forms.Relation (kinds.Logical c.args.operator c.args.token.span.from) c.args.left c.in_ok-right.right c.in_ok-node.ensures.builds refl c.join.ensures c.read_rel.ensures.extends c.requires.left) (done (start (parts.Begun _ _ _) _) c.in_ok-right.ensures.reads.reads (λ b. refl)) }

pub read_rel-returns-in_err-left-clause-reads : goal.read_rel-returns-in_err-left-clause-reads
read_rel-returns-in_err-left-clause-reads t c = fails (lexemes c.args.tokens.now) c.args.cursor c.args.cursor _ _ _ (start parts.Rel _) (λ b. refl) c.in_err-left.ensures.reads c.from_residual.ensures.1

pub read_rel-returns-clause-extends : goal.read_rel-returns-clause-extends
read_rel-returns-clause-extends t c = extends_on (c.read_simple.ensures.extends) c.rest_of_rel.ensures.extends

pub read_rel-returns-clause-reads : goal.read_rel-returns-clause-reads
read_rel-returns-clause-reads t c = answers (lexemes c.args.tokens.now) c.args.cursor c.in_ok-left.next _ _ (done (start parts.Rel _) c.in_ok-left.ensures.reads.reads (λ b. refl)) c.in_ok-left.ensures.reads.forward refl c.rest_of_rel.ensures.reads

pub rest_of_rel-returns-in_err-token-clause-reads : goal.rest_of_rel-returns-in_err-token-clause-reads
rest_of_rel-returns-in_err-token-clause-reads t c = passes (lexemes c.args.tokens.now) c.args.cursor c.args.cursor classes.Relational _ _ _ (start (parts.RestOfRel _) _) (λ t. refl) c.in_err-token.ensures c.from_residual.ensures.1

pub rest_of_rel-returns-in_err-right-clause-reads : goal.rest_of_rel-returns-in_err-right-clause-reads
rest_of_rel-returns-in_err-right-clause-reads t c = fails (lexemes c.args.tokens.now) c.args.cursor c.in-Some.next _ _ _ (seen (start (parts.RestOfRel _) _) (present classes.Relational (lexeme c.args.tokens.now.source) (lexemes c.args.tokens.now) c.args.cursor c.in_ok-token.ensures c.in-Some.is).takes refl) (λ b. refl) c.in_err-right.ensures.reads c.from_residual-in_err-right.ensures.1

pub rest_of_rel-add_two-requires-clause-a : goal.rest_of_rel-add_two-requires-clause-a
rest_of_rel-add_two-requires-clause-a t c = within_on c.read_simple.ensures.extends c.requires.left

pub rest_of_rel-returns-in-Some-clause-extends : goal.rest_of_rel-returns-in-Some-clause-extends
rest_of_rel-returns-in-Some-clause-extends t c = extends_on (c.read_simple.ensures.extends) c.add_two.ensures.extends

pub rest_of_rel-returns-in-Some-clause-reads : goal.rest_of_rel-returns-in-Some-clause-reads
rest_of_rel-returns-in-Some-clause-reads t c = record { within = c.in_ok-node.ensures.within; forward = omega (arith, (present classes.Relational (lexeme c.args.tokens.now.source) (lexemes c.args.tokens.now) c.args.cursor c.in_ok-token.ensures c.in-Some.is).place, c.in_ok-right.ensures.reads.forward); ends = c.in_ok-right.ensures.reads.ends; reads = go_as Gives (over_two c.args.exprs.now c.read_simple.new.exprs forms.Relation (kinds.Relation (phrases.relational_of c.in-Some.token.kind) c.in-Some.token.span.from) c.args.left c.in_ok-right.right c.in_ok-node.ensures.builds (ap (λ (o : RelationalOperator). kinds.Relation o c.in-Some.token.span.from) c.relational_of.ensures) c.join.ensures c.read_simple.ensures.extends c.requires.left) (done (seen (start (parts.RestOfRel _) _) (present classes.Relational (lexeme c.args.tokens.now.source) (lexemes c.args.tokens.now) c.args.cursor c.in_ok-token.ensures c.in-Some.is).takes refl) c.in_ok-right.ensures.reads.reads (λ b. refl)) }

pub rest_of_rel-returns-in_err-next-clause-reads : goal.rest_of_rel-returns-in_err-next-clause-reads
rest_of_rel-returns-in_err-next-clause-reads t c = passes (lexemes c.args.tokens.now) c.args.cursor c.args.cursor (word words.Not) _ _ _ (unseen (start (parts.RestOfRel _) _) (absent classes.Relational (lexeme c.args.tokens.now.source) (lexemes c.args.tokens.now) c.args.cursor c.in_ok-token.ensures c.in_default.is)) (λ t. refl) c.in_err-next.ensures c.from_residual-in_err-next.ensures.1

pub rest_of_rel-returns-in_err-next-2-clause-reads : goal.rest_of_rel-returns-in_err-next-2-clause-reads
rest_of_rel-returns-in_err-next-2-clause-reads t c = passes (lexemes c.args.tokens.now) c.args.cursor c.args.cursor (word words.In) _ _ _ (unseen (unseen (start (parts.RestOfRel _) _) (absent classes.Relational (lexeme c.args.tokens.now.source) (lexemes c.args.tokens.now) c.args.cursor c.in_ok-token.ensures c.in_default.is)) (absent (word words.Not) (lexeme c.args.tokens.now.source) (lexemes c.args.tokens.now) c.args.cursor c.in_ok-next.ensures c.in_default-2.is)) (λ t. refl) c.in_err-next-2.ensures c.from_residual-in_err-next-2.ensures.1

pub rest_of_rel-returns-in-Some-3-clause-reads : goal.rest_of_rel-returns-in-Some-3-clause-reads
rest_of_rel-returns-in-Some-3-clause-reads t c = answers (lexemes c.args.tokens.now) c.args.cursor c.in-Some-3.next _ _ (seen (unseen (unseen (start (parts.RestOfRel _) _) (absent classes.Relational (lexeme c.args.tokens.now.source) (lexemes c.args.tokens.now) c.args.cursor c.in_ok-token.ensures c.in_default.is)) (absent (word words.Not) (lexeme c.args.tokens.now.source) (lexemes c.args.tokens.now) c.args.cursor c.in_ok-next.ensures c.in_default-2.is)) (present (word words.In) (lexeme c.args.tokens.now.source) (lexemes c.args.tokens.now) c.args.cursor c.in_ok-next-2.ensures c.in-Some-3.is).takes refl) (omega (arith, (present (word words.In) (lexeme c.args.tokens.now.source) (lexemes c.args.tokens.now) c.args.cursor c.in_ok-next-2.ensures c.in-Some-3.is).place)) refl c.read_membership-in-Some-3.ensures.reads

pub rest_of_rel-returns-in-None-clause-reads : goal.rest_of_rel-returns-in-None-clause-reads
rest_of_rel-returns-in-None-clause-reads t c = record { within = c.requires.left; forward = omega arith; ends = c.requires.at; reads = unseen (unseen (unseen (start (parts.RestOfRel _) _) (absent classes.Relational (lexeme c.args.tokens.now.source) (lexemes c.args.tokens.now) c.args.cursor c.in_ok-token.ensures c.in_default.is)) (absent (word words.Not) (lexeme c.args.tokens.now.source) (lexemes c.args.tokens.now) c.args.cursor c.in_ok-next.ensures c.in_default-2.is)) (absent (word words.In) (lexeme c.args.tokens.now.source) (lexemes c.args.tokens.now) c.args.cursor c.in_ok-next-2.ensures c.in-None.is) }

pub rest_of_rel-returns-in_err-end-clause-reads : goal.rest_of_rel-returns-in_err-end-clause-reads
rest_of_rel-returns-in_err-end-clause-reads t c = misses (lexemes c.args.tokens.now) c.args.cursor c.in-Some-2.next (word words.In) _ _ _ (omega (arith, (present (word words.Not) (lexeme c.args.tokens.now.source) (lexemes c.args.tokens.now) c.args.cursor c.in_ok-next.ensures c.in-Some-2.is).place, (present (word words.Not) (lexeme c.args.tokens.now.source) (lexemes c.args.tokens.now) c.args.cursor c.in_ok-next.ensures c.in-Some-2.is).within)) (seen (unseen (start (parts.RestOfRel _) _) (absent classes.Relational (lexeme c.args.tokens.now.source) (lexemes c.args.tokens.now) c.args.cursor c.in_ok-token.ensures c.in_default.is)) (present (word words.Not) (lexeme c.args.tokens.now.source) (lexemes c.args.tokens.now) c.args.cursor c.in_ok-next.ensures c.in-Some-2.is).takes refl) refl (λ t. refl) c.in_err-end.ensures c.from_residual-in_err-end.ensures.1

pub rest_of_rel-returns-in-Some-2-clause-reads : goal.rest_of_rel-returns-in-Some-2-clause-reads
rest_of_rel-returns-in-Some-2-clause-reads t c = answers (lexemes c.args.tokens.now) c.args.cursor c.in_ok-end.end _ _ (seen (seen (unseen (start (parts.RestOfRel _) _) (absent classes.Relational (lexeme c.args.tokens.now.source) (lexemes c.args.tokens.now) c.args.cursor c.in_ok-token.ensures c.in_default.is)) (present (word words.Not) (lexeme c.args.tokens.now.source) (lexemes c.args.tokens.now) c.args.cursor c.in_ok-next.ensures c.in-Some-2.is).takes refl) c.in_ok-end.ensures.takes refl) (omega (arith, (present (word words.Not) (lexeme c.args.tokens.now.source) (lexemes c.args.tokens.now) c.args.cursor c.in_ok-next.ensures c.in-Some-2.is).place, c.in_ok-end.ensures.place)) refl c.read_membership.ensures.reads

pub read_membership-returns-in_err-low-clause-reads : goal.read_membership-returns-in_err-low-clause-reads
read_membership-returns-in_err-low-clause-reads t c = fails (lexemes c.args.tokens.now) c.args.cursor c.args.cursor _ _ _ (start (parts.Membership _ _) _) (λ b. refl) c.in_err-low.ensures.reads c.from_residual.ensures.1

pub read_membership-returns-in_err-next-clause-reads : goal.read_membership-returns-in_err-next-clause-reads
read_membership-returns-in_err-next-clause-reads t c = passes (lexemes c.args.tokens.now) c.args.cursor c.in_ok-low.next (mark marks.Dots) _ _ _ (done (start (parts.Membership _ _) _) c.in_ok-low.ensures.reads.reads (λ b. refl)) (λ t. refl) c.in_err-next.ensures c.from_residual-in_err-next.ensures.1

pub read_membership-returns-in_err-high-clause-reads : goal.read_membership-returns-in_err-high-clause-reads
read_membership-returns-in_err-high-clause-reads t c = fails (lexemes c.args.tokens.now) c.args.cursor c.in-Some.next _ _ _ (seen (done (start (parts.Membership _ _) _) c.in_ok-low.ensures.reads.reads (λ b. refl)) (present (mark marks.Dots) (lexeme c.args.tokens.now.source) (lexemes c.args.tokens.now) c.in_ok-low.next c.in_ok-next.ensures c.in-Some.is).takes refl) (λ b. refl) c.in_err-high.ensures.reads c.from_residual-in_err-high.ensures.1

pub read_membership-add_three-requires-clause-a : goal.read_membership-add_three-requires-clause-a
read_membership-add_three-requires-clause-a t c = within_on (extends_on c.read_simple.ensures.extends c.read_simple-in-Some.ensures.extends) c.requires.left

pub read_membership-add_three-requires-clause-b : goal.read_membership-add_three-requires-clause-b
read_membership-add_three-requires-clause-b t c = within_on c.read_simple-in-Some.ensures.extends c.in_ok-low.ensures.reads.within

pub read_membership-returns-in-Some-clause-extends : goal.read_membership-returns-in-Some-clause-extends
read_membership-returns-in-Some-clause-extends t c = extends_on (extends_on (c.read_simple.ensures.extends) c.read_simple-in-Some.ensures.extends) c.add_three.ensures.extends

pub read_membership-returns-in-Some-clause-reads : goal.read_membership-returns-in-Some-clause-reads
read_membership-returns-in-Some-clause-reads t c = record { within = c.in_ok-node.ensures.within; forward = omega (arith, c.in_ok-low.ensures.reads.forward, (present (mark marks.Dots) (lexeme c.args.tokens.now.source) (lexemes c.args.tokens.now) c.in_ok-low.next c.in_ok-next.ensures c.in-Some.is).place, c.in_ok-high.ensures.reads.forward); ends = c.in_ok-high.ensures.reads.ends; reads = go_as Gives (over_three c.args.exprs.now c.read_simple.new.exprs c.read_simple-in-Some.new.exprs forms.Relation (kinds.RangeMembership c.args.is_not) c.args.left c.in_ok-low.low c.in_ok-high.high c.in_ok-node.ensures.builds refl c.join-span.ensures (extends_on c.read_simple.ensures.extends c.read_simple-in-Some.ensures.extends) c.requires.left c.read_simple-in-Some.ensures.extends c.in_ok-low.ensures.reads.within) (done (seen (done (start (parts.Membership _ _) _) c.in_ok-low.ensures.reads.reads (λ b. refl)) (present (mark marks.Dots) (lexeme c.args.tokens.now.source) (lexemes c.args.tokens.now) c.in_ok-low.next c.in_ok-next.ensures c.in-Some.is).takes refl) c.in_ok-high.ensures.reads.reads (λ b. refl)) }

pub read_membership-returns-then-not-is_mark-clause-reads : goal.read_membership-returns-then-not-is_mark-clause-reads
read_membership-returns-then-not-is_mark-clause-reads t c = record { ends = c.in_ok-low.ensures.reads.ends; level = c.in_ok-low.next.nesting; sticks = declined (unseen (done (start (parts.Membership _ _) _) c.in_ok-low.ensures.reads.reads (λ b. refl)) (absent (mark marks.Dots) (lexeme c.args.tokens.now.source) (lexemes c.args.tokens.now) c.in_ok-low.next c.in_ok-next.ensures c.in_default.is)) (sym c.if-not-is_mark.ensures) }

pub read_membership-add_two-requires-clause-a : goal.read_membership-add_two-requires-clause-a
read_membership-add_two-requires-clause-a t c = within_on c.read_simple.ensures.extends c.requires.left

pub read_membership-returns-clause-extends : goal.read_membership-returns-clause-extends
read_membership-returns-clause-extends t c = extends_on (c.read_simple.ensures.extends) c.add_two.ensures.extends

pub read_membership-returns-clause-reads : goal.read_membership-returns-clause-reads
read_membership-returns-clause-reads t c = record { within = c.in_ok-node-2.ensures.within; forward = omega (arith, c.in_ok-low.ensures.reads.forward); ends = c.in_ok-low.ensures.reads.ends; reads = go_as Gives (over_two c.args.exprs.now c.read_simple.new.exprs forms.Relation (kinds.MarkMembership c.args.is_not) c.args.left c.in_ok-low.low c.in_ok-node-2.ensures.builds refl c.join.ensures c.read_simple.ensures.extends c.requires.left) (decided (unseen (done (start (parts.Membership _ _) _) c.in_ok-low.ensures.reads.reads (λ b. refl)) (absent (mark marks.Dots) (lexeme c.args.tokens.now.source) (lexemes c.args.tokens.now) c.in_ok-low.next c.in_ok-next.ensures c.in_default.is)) (sym c.if-not-is_mark.ensures)) }

pub read_simple-returns-in_err-left-clause-reads : goal.read_simple-returns-in_err-left-clause-reads
read_simple-returns-in_err-left-clause-reads t c = fails (lexemes c.args.tokens.now) c.args.cursor c.args.cursor _ _ _ (start parts.Simple _) (λ b. refl) c.in_err-left.ensures.reads c.from_residual.ensures.1

pub read_simple-loop-token-init : goal.read_simple-loop-token-init
read_simple-loop-token-init t c = record { within = c.in_ok-left.ensures.reads.within; forward = c.in_ok-left.ensures.reads.forward; ends = c.in_ok-left.ensures.reads.ends; extends = c.read_signed.ensures.extends; awaits = done (start parts.Simple _) c.in_ok-left.ensures.reads.reads (λ b. refl) }

pub read_simple-returns-in_err-token-clause-extends : goal.read_simple-returns-in_err-token-clause-extends
read_simple-returns-in_err-token-clause-extends t c = c.loop-token.invariant.extends

pub read_simple-returns-in_err-token-clause-reads : goal.read_simple-returns-in_err-token-clause-reads
read_simple-returns-in_err-token-clause-reads t c = passes (lexemes c.args.tokens.now) c.args.cursor c.loop-token.next classes.Adding _ _ _ (opened c.loop-token.invariant.awaits) (λ t. refl) c.in_err-token.ensures c.from_residual-in_err-token.ensures.1

pub read_simple-returns-in_err-right-clause-extends : goal.read_simple-returns-in_err-right-clause-extends
read_simple-returns-in_err-right-clause-extends t c = extends_on c.loop-token.invariant.extends c.read_term.ensures.extends

pub read_simple-returns-in_err-right-clause-reads : goal.read_simple-returns-in_err-right-clause-reads
read_simple-returns-in_err-right-clause-reads t c = fails (lexemes c.args.tokens.now) c.args.cursor c.in-Some.behind _ _ _ (seen (opened c.loop-token.invariant.awaits) (present classes.Adding (lexeme c.args.tokens.now.source) (lexemes c.args.tokens.now) c.loop-token.next c.in_ok-token.ensures c.in-Some.is).takes refl) (λ b. refl) c.in_err-right.ensures.reads c.from_residual-in_err-right.ensures.1

pub read_simple-add_two-requires-clause-a : goal.read_simple-add_two-requires-clause-a
read_simple-add_two-requires-clause-a t c = within_on c.read_term.ensures.extends c.loop-token.invariant.within

pub read_simple-returns-in_err-left-2-clause-extends : goal.read_simple-returns-in_err-left-2-clause-extends
read_simple-returns-in_err-left-2-clause-extends t c = extends_on (extends_on c.loop-token.invariant.extends c.read_term.ensures.extends) c.add_two.ensures.extends

pub read_simple-loop-token-preserved : goal.read_simple-loop-token-preserved
read_simple-loop-token-preserved t c = record { within = c.in_ok-left-2.ensures.within; forward = omega (arith, c.loop-token.invariant.forward, (present classes.Adding (lexeme c.args.tokens.now.source) (lexemes c.args.tokens.now) c.loop-token.next c.in_ok-token.ensures c.in-Some.is).place, c.in_ok-right.ensures.reads.forward); ends = c.in_ok-right.ensures.reads.ends; extends = extends_on (extends_on c.loop-token.invariant.extends c.read_term.ensures.extends) c.add_two.ensures.extends; awaits = go_as (λ z. Rest (parts.Sums z)) (over_two c.loop-token.exprs c.read_term.new.exprs forms.Simple (kinds.Sum (phrases.adding_of c.in-Some.token.kind) c.in-Some.token.span.from) c.loop-token.left c.in_ok-right.right c.in_ok-left-2.ensures.builds (ap (λ (o : AddingOperator). kinds.Sum o c.in-Some.token.span.from) c.adding_of.ensures) c.join.ensures c.read_term.ensures.extends c.loop-token.invariant.within) (done (seen (opened c.loop-token.invariant.awaits) (present classes.Adding (lexeme c.args.tokens.now.source) (lexemes c.args.tokens.now) c.loop-token.next c.in_ok-token.ensures c.in-Some.is).takes refl) c.in_ok-right.ensures.reads.reads (λ b. refl)) }

pub read_simple-returns-clause-extends : goal.read_simple-returns-clause-extends
read_simple-returns-clause-extends t c = c.loop-token.invariant.extends

pub read_simple-returns-clause-reads : goal.read_simple-returns-clause-reads
read_simple-returns-clause-reads t c = record { within = c.loop-token.invariant.within; forward = c.loop-token.invariant.forward; ends = c.loop-token.invariant.ends; reads = unseen (opened c.loop-token.invariant.awaits) (absent classes.Adding (lexeme c.args.tokens.now.source) (lexemes c.args.tokens.now) c.loop-token.next c.in_ok-token.ensures c.in_default.is) }

pub read_signed-returns-in_err-token-clause-reads : goal.read_signed-returns-in_err-token-clause-reads
read_signed-returns-in_err-token-clause-reads t c = passes (lexemes c.args.tokens.now) c.args.cursor c.args.cursor classes.Adding _ _ _ (start parts.Signed _) (λ t. refl) c.in_err-token.ensures c.from_residual.ensures.1

pub read_signed-returns-in_default-clause-reads : goal.read_signed-returns-in_default-clause-reads
read_signed-returns-in_default-clause-reads t c = answers (lexemes c.args.tokens.now) c.args.cursor c.args.cursor _ _ (unseen (start parts.Signed _) (absent classes.Adding (lexeme c.args.tokens.now.source) (lexemes c.args.tokens.now) c.args.cursor c.in_ok-token.ensures c.in_default.is)) (omega arith) refl c.read_term.ensures.reads

pub read_signed-returns-in_err-term-clause-reads : goal.read_signed-returns-in_err-term-clause-reads
read_signed-returns-in_err-term-clause-reads t c = fails (lexemes c.args.tokens.now) c.args.cursor c.in-Some.next _ _ _ (seen (start parts.Signed _) (present classes.Adding (lexeme c.args.tokens.now.source) (lexemes c.args.tokens.now) c.args.cursor c.in_ok-token.ensures c.in-Some.is).takes refl) (λ b. refl) c.in_err-term.ensures.reads c.from_residual-in_err-term.ensures.1

pub read_signed-returns-clause-extends : goal.read_signed-returns-clause-extends
read_signed-returns-clause-extends t c = extends_on (c.read_term-2.ensures.extends) c.add_one.ensures.extends

pub read_signed-returns-clause-reads : goal.read_signed-returns-clause-reads
read_signed-returns-clause-reads t c = record { within = c.in_ok-node.ensures.within; forward = omega (arith, (present classes.Adding (lexeme c.args.tokens.now.source) (lexemes c.args.tokens.now) c.args.cursor c.in_ok-token.ensures c.in-Some.is).place, c.in_ok-term.ensures.reads.forward); ends = c.in_ok-term.ensures.reads.ends; reads = go_as Gives (over_one forms.Simple (kinds.Sign (phrases.adding_of c.in-Some.token.kind)) ((phrase (trees c.read_term-2.new.exprs) c.in_ok-term.term).tree ∷ []) (phrases.join c.in-Some.token.span c.in_ok-term.term.span) c.in_ok-node.ensures.builds (ap (λ (o : AddingOperator). kinds.Sign o) c.adding_of.ensures) c.join.ensures) (done (seen (start parts.Signed _) (present classes.Adding (lexeme c.args.tokens.now.source) (lexemes c.args.tokens.now) c.args.cursor c.in_ok-token.ensures c.in-Some.is).takes refl) c.in_ok-term.ensures.reads.reads (λ b. refl)) }

pub read_term-returns-in_err-left-clause-reads : goal.read_term-returns-in_err-left-clause-reads
read_term-returns-in_err-left-clause-reads t c = fails (lexemes c.args.tokens.now) c.args.cursor c.args.cursor _ _ _ (start parts.Term _) (λ b. refl) c.in_err-left.ensures.reads c.from_residual.ensures.1

pub read_term-loop-token-init : goal.read_term-loop-token-init
read_term-loop-token-init t c = record { within = c.in_ok-left.ensures.reads.within; forward = c.in_ok-left.ensures.reads.forward; ends = c.in_ok-left.ensures.reads.ends; extends = c.read_factor.ensures.extends; awaits = done (start parts.Term _) c.in_ok-left.ensures.reads.reads (λ b. refl) }

pub read_term-returns-in_err-token-clause-extends : goal.read_term-returns-in_err-token-clause-extends
read_term-returns-in_err-token-clause-extends t c = c.loop-token.invariant.extends

pub read_term-returns-in_err-token-clause-reads : goal.read_term-returns-in_err-token-clause-reads
read_term-returns-in_err-token-clause-reads t c = passes (lexemes c.args.tokens.now) c.args.cursor c.loop-token.next classes.Multiplying _ _ _ (opened c.loop-token.invariant.awaits) (λ t. refl) c.in_err-token.ensures c.from_residual-in_err-token.ensures.1

pub read_term-returns-in_err-right-clause-extends : goal.read_term-returns-in_err-right-clause-extends
read_term-returns-in_err-right-clause-extends t c = extends_on c.loop-token.invariant.extends c.read_factor-in-Some.ensures.extends

pub read_term-returns-in_err-right-clause-reads : goal.read_term-returns-in_err-right-clause-reads
read_term-returns-in_err-right-clause-reads t c = fails (lexemes c.args.tokens.now) c.args.cursor c.in-Some.behind _ _ _ (seen (opened c.loop-token.invariant.awaits) (present classes.Multiplying (lexeme c.args.tokens.now.source) (lexemes c.args.tokens.now) c.loop-token.next c.in_ok-token.ensures c.in-Some.is).takes refl) (λ b. refl) c.in_err-right.ensures.reads c.from_residual-in_err-right.ensures.1

pub read_term-add_two-requires-clause-a : goal.read_term-add_two-requires-clause-a
read_term-add_two-requires-clause-a t c = within_on c.read_factor-in-Some.ensures.extends c.loop-token.invariant.within

pub read_term-returns-in_err-left-2-clause-extends : goal.read_term-returns-in_err-left-2-clause-extends
read_term-returns-in_err-left-2-clause-extends t c = extends_on (extends_on c.loop-token.invariant.extends c.read_factor-in-Some.ensures.extends) c.add_two.ensures.extends

pub read_term-loop-token-preserved : goal.read_term-loop-token-preserved
read_term-loop-token-preserved t c = record { within = c.in_ok-left-2.ensures.within; forward = omega (arith, c.loop-token.invariant.forward, (present classes.Multiplying (lexeme c.args.tokens.now.source) (lexemes c.args.tokens.now) c.loop-token.next c.in_ok-token.ensures c.in-Some.is).place, c.in_ok-right.ensures.reads.forward); ends = c.in_ok-right.ensures.reads.ends; extends = extends_on (extends_on c.loop-token.invariant.extends c.read_factor-in-Some.ensures.extends) c.add_two.ensures.extends; awaits = go_as (λ z. Rest (parts.Products z)) (over_two c.loop-token.exprs c.read_factor-in-Some.new.exprs forms.Simple (kinds.Product (phrases.multiplying_of c.in-Some.token.kind) c.in-Some.token.span.from) c.loop-token.left c.in_ok-right.right c.in_ok-left-2.ensures.builds (ap (λ (o : MultiplyingOperator). kinds.Product o c.in-Some.token.span.from) c.multiplying_of.ensures) c.join.ensures c.read_factor-in-Some.ensures.extends c.loop-token.invariant.within) (done (seen (opened c.loop-token.invariant.awaits) (present classes.Multiplying (lexeme c.args.tokens.now.source) (lexemes c.args.tokens.now) c.loop-token.next c.in_ok-token.ensures c.in-Some.is).takes refl) c.in_ok-right.ensures.reads.reads (λ b. refl)) }

pub read_term-returns-clause-extends : goal.read_term-returns-clause-extends
read_term-returns-clause-extends t c = c.loop-token.invariant.extends

pub read_term-returns-clause-reads : goal.read_term-returns-clause-reads
read_term-returns-clause-reads t c = record { within = c.loop-token.invariant.within; forward = c.loop-token.invariant.forward; ends = c.loop-token.invariant.ends; reads = unseen (opened c.loop-token.invariant.awaits) (absent classes.Multiplying (lexeme c.args.tokens.now.source) (lexemes c.args.tokens.now) c.loop-token.next c.in_ok-token.ensures c.in_default.is) }

pub read_factor-returns-in_err-token-clause-reads : goal.read_factor-returns-in_err-token-clause-reads
read_factor-returns-in_err-token-clause-reads t c = passes (lexemes c.args.tokens.now) c.args.cursor c.args.cursor (word words.Abs) _ _ _ (start parts.Factor _) (λ t. refl) c.in_err-token.ensures c.from_residual.ensures.1

pub read_factor-returns-in_err-operand-clause-reads : goal.read_factor-returns-in_err-operand-clause-reads
read_factor-returns-in_err-operand-clause-reads t c = fails (lexemes c.args.tokens.now) c.args.cursor c.in-Some.next _ _ _ (seen (start parts.Factor _) (present (word words.Abs) (lexeme c.args.tokens.now.source) (lexemes c.args.tokens.now) c.args.cursor c.in_ok-token.ensures c.in-Some.is).takes refl) (λ b. refl) c.in_err-operand.ensures.reads c.from_residual-in_err-operand.ensures.1

pub read_factor-returns-in-Some-clause-extends : goal.read_factor-returns-in-Some-clause-extends
read_factor-returns-in-Some-clause-extends t c = extends_on (c.read_primary.ensures.extends) c.add_one.ensures.extends

pub read_factor-returns-in-Some-clause-reads : goal.read_factor-returns-in-Some-clause-reads
read_factor-returns-in-Some-clause-reads t c = record { within = c.in_ok-node.ensures.within; forward = omega (arith, (present (word words.Abs) (lexeme c.args.tokens.now.source) (lexemes c.args.tokens.now) c.args.cursor c.in_ok-token.ensures c.in-Some.is).place, c.in_ok-operand.ensures.reads.forward); ends = c.in_ok-operand.ensures.reads.ends; reads = go_as Gives (over_one forms.Simple kinds.Absolute ((phrase (trees c.read_primary.new.exprs) c.in_ok-operand.operand).tree ∷ []) (phrases.join c.in-Some.token.span c.in_ok-operand.operand.span) c.in_ok-node.ensures.builds refl c.join-span.ensures) (done (seen (start parts.Factor _) (present (word words.Abs) (lexeme c.args.tokens.now.source) (lexemes c.args.tokens.now) c.args.cursor c.in_ok-token.ensures c.in-Some.is).takes refl) c.in_ok-operand.ensures.reads.reads (λ b. refl)) }

pub read_factor-returns-in_err-token-2-clause-reads : goal.read_factor-returns-in_err-token-2-clause-reads
read_factor-returns-in_err-token-2-clause-reads t c = passes (lexemes c.args.tokens.now) c.args.cursor c.args.cursor (word words.Not) _ _ _ (unseen (start parts.Factor _) (absent (word words.Abs) (lexeme c.args.tokens.now.source) (lexemes c.args.tokens.now) c.args.cursor c.in_ok-token.ensures c.in_default.is)) (λ t. refl) c.in_err-token-2.ensures c.from_residual-in_err-token-2.ensures.1

pub read_factor-returns-in_err-operand-2-clause-reads : goal.read_factor-returns-in_err-operand-2-clause-reads
read_factor-returns-in_err-operand-2-clause-reads t c = fails (lexemes c.args.tokens.now) c.args.cursor c.in-Some-2.next _ _ _ (seen (unseen (start parts.Factor _) (absent (word words.Abs) (lexeme c.args.tokens.now.source) (lexemes c.args.tokens.now) c.args.cursor c.in_ok-token.ensures c.in_default.is)) (present (word words.Not) (lexeme c.args.tokens.now.source) (lexemes c.args.tokens.now) c.args.cursor c.in_ok-token-2.ensures c.in-Some-2.is).takes refl) (λ b. refl) c.in_err-operand-2.ensures.reads c.from_residual-in_err-operand-2.ensures.1

pub read_factor-returns-in-Some-2-clause-extends : goal.read_factor-returns-in-Some-2-clause-extends
read_factor-returns-in-Some-2-clause-extends t c = extends_on (c.read_primary-in-Some-2.ensures.extends) c.add_one-in-Some-2.ensures.extends

pub read_factor-returns-in-Some-2-clause-reads : goal.read_factor-returns-in-Some-2-clause-reads
read_factor-returns-in-Some-2-clause-reads t c = record { within = c.in_ok-node-2.ensures.within; forward = omega (arith, (present (word words.Not) (lexeme c.args.tokens.now.source) (lexemes c.args.tokens.now) c.args.cursor c.in_ok-token-2.ensures c.in-Some-2.is).place, c.in_ok-operand-2.ensures.reads.forward); ends = c.in_ok-operand-2.ensures.reads.ends; reads = go_as Gives (over_one forms.Simple kinds.Not ((phrase (trees c.read_primary-in-Some-2.new.exprs) c.in_ok-operand-2.operand).tree ∷ []) (phrases.join c.in-Some-2.token.span c.in_ok-operand-2.operand.span) c.in_ok-node-2.ensures.builds refl c.join-span-in-Some-2.ensures) (done (seen (unseen (start parts.Factor _) (absent (word words.Abs) (lexeme c.args.tokens.now.source) (lexemes c.args.tokens.now) c.args.cursor c.in_ok-token.ensures c.in_default.is)) (present (word words.Not) (lexeme c.args.tokens.now.source) (lexemes c.args.tokens.now) c.args.cursor c.in_ok-token-2.ensures c.in-Some-2.is).takes refl) c.in_ok-operand-2.ensures.reads.reads (λ b. refl)) }

pub read_factor-returns-clause-reads : goal.read_factor-returns-clause-reads
read_factor-returns-clause-reads t c = answers (lexemes c.args.tokens.now) c.args.cursor c.args.cursor _ _ (unseen (unseen (start parts.Factor _) (absent (word words.Abs) (lexeme c.args.tokens.now.source) (lexemes c.args.tokens.now) c.args.cursor c.in_ok-token.ensures c.in_default.is)) (absent (word words.Not) (lexeme c.args.tokens.now.source) (lexemes c.args.tokens.now) c.args.cursor c.in_ok-token-2.ensures c.in_default-2.is)) (omega arith) refl c.read_power.ensures.reads

pub read_power-returns-in_err-base-clause-reads : goal.read_power-returns-in_err-base-clause-reads
read_power-returns-in_err-base-clause-reads t c = fails (lexemes c.args.tokens.now) c.args.cursor c.args.cursor _ _ _ (start parts.Powered _) (λ b. refl) c.in_err-base.ensures.reads c.from_residual.ensures.1

pub read_power-returns-in_err-token-clause-reads : goal.read_power-returns-in_err-token-clause-reads
read_power-returns-in_err-token-clause-reads t c = passes (lexemes c.args.tokens.now) c.args.cursor c.in_ok-base.next (mark marks.Power) _ _ _ (done (start parts.Powered _) c.in_ok-base.ensures.reads.reads (λ b. refl)) (λ t. refl) c.in_err-token.ensures c.from_residual-in_err-token.ensures.1

pub read_power-returns-in_default-clause-reads : goal.read_power-returns-in_default-clause-reads
read_power-returns-in_default-clause-reads t c = record { within = c.in_ok-base.ensures.reads.within; forward = c.in_ok-base.ensures.reads.forward; ends = c.in_ok-base.ensures.reads.ends; reads = unseen (done (start parts.Powered _) c.in_ok-base.ensures.reads.reads (λ b. refl)) (absent (mark marks.Power) (lexeme c.args.tokens.now.source) (lexemes c.args.tokens.now) c.in_ok-base.next c.in_ok-token.ensures c.in_default.is) }

pub read_power-returns-in_err-exponent-clause-extends : goal.read_power-returns-in_err-exponent-clause-extends
read_power-returns-in_err-exponent-clause-extends t c = extends_on (c.read_primary.ensures.extends) c.read_primary-2.ensures.extends

pub read_power-returns-in_err-exponent-clause-reads : goal.read_power-returns-in_err-exponent-clause-reads
read_power-returns-in_err-exponent-clause-reads t c = fails (lexemes c.args.tokens.now) c.args.cursor c.in-Some.next _ _ _ (seen (done (start parts.Powered _) c.in_ok-base.ensures.reads.reads (λ b. refl)) (present (mark marks.Power) (lexeme c.args.tokens.now.source) (lexemes c.args.tokens.now) c.in_ok-base.next c.in_ok-token.ensures c.in-Some.is).takes refl) (λ b. refl) c.in_err-exponent.ensures.reads c.from_residual-in_err-exponent.ensures.1

pub read_power-add_two-requires-clause-a : goal.read_power-add_two-requires-clause-a
read_power-add_two-requires-clause-a t c = within_on c.read_primary-2.ensures.extends c.in_ok-base.ensures.reads.within

pub read_power-returns-in_err-node-clause-extends : goal.read_power-returns-in_err-node-clause-extends
read_power-returns-in_err-node-clause-extends t c = extends_on (extends_on (c.read_primary.ensures.extends) c.read_primary-2.ensures.extends) c.add_two.ensures.extends

pub read_power-returns-clause-extends : goal.read_power-returns-clause-extends
read_power-returns-clause-extends t c = extends_on (extends_on (c.read_primary.ensures.extends) c.read_primary-2.ensures.extends) c.add_two.ensures.extends

pub read_power-returns-clause-reads : goal.read_power-returns-clause-reads
read_power-returns-clause-reads t c = record { within = c.in_ok-node.ensures.within; forward = omega (arith, c.in_ok-base.ensures.reads.forward, (present (mark marks.Power) (lexeme c.args.tokens.now.source) (lexemes c.args.tokens.now) c.in_ok-base.next c.in_ok-token.ensures c.in-Some.is).place, c.in_ok-exponent.ensures.reads.forward); ends = c.in_ok-exponent.ensures.reads.ends; reads = go_as Gives (over_two c.read_primary.new.exprs c.read_primary-2.new.exprs forms.Simple (kinds.Power c.in-Some.token.span.from) c.in_ok-base.base c.in_ok-exponent.exponent c.in_ok-node.ensures.builds refl c.join-span.ensures c.read_primary-2.ensures.extends c.in_ok-base.ensures.reads.within) (done (seen (done (start parts.Powered _) c.in_ok-base.ensures.reads.reads (λ b. refl)) (present (mark marks.Power) (lexeme c.args.tokens.now.source) (lexemes c.args.tokens.now) c.in_ok-base.next c.in_ok-token.ensures c.in-Some.is).takes refl) c.in_ok-exponent.ensures.reads.reads (λ b. refl)) }

pub read_primary-returns-in_err-token-clause-reads : goal.read_primary-returns-in_err-token-clause-reads
read_primary-returns-in_err-token-clause-reads t c = passes (lexemes c.args.tokens.now) c.args.cursor c.args.cursor classes.Number _ _ _ (start parts.Primary _) (λ t. refl) c.in_err-token.ensures c.from_residual.ensures.1

pub read_primary-returns-in-Some-clause-reads : goal.read_primary-returns-in-Some-clause-reads
read_primary-returns-in-Some-clause-reads t c = record { within = c.in_ok-node.ensures.within; forward = omega (arith, (present classes.Number (lexeme c.args.tokens.now.source) (lexemes c.args.tokens.now) c.args.cursor c.in_ok-token.ensures c.in-Some.is).place); ends = (omega (arith, (present classes.Number (lexeme c.args.tokens.now.source) (lexemes c.args.tokens.now) c.args.cursor c.in_ok-token.ensures c.in-Some.is).place, (present classes.Number (lexeme c.args.tokens.now.source) (lexemes c.args.tokens.now) c.args.cursor c.in_ok-token.ensures c.in-Some.is).within)); reads = go_as Gives (over_none (trees c.args.exprs.now) forms.Simple (kinds.Number (phrases.number_of c.in-Some.token.kind)) c.in-Some.token.span (over_one forms.Simple (kinds.Number (phrases.number_of c.in-Some.token.kind)) (trees_at (trees c.args.exprs.now) c.new.result) c.in-Some.token.span c.in_ok-node.ensures.builds (ap (λ (n : ℕ). kinds.Number n) c.number_of.ensures) refl) c.new.ensures) (seen (start parts.Primary _) (present classes.Number (lexeme c.args.tokens.now.source) (lexemes c.args.tokens.now) c.args.cursor c.in_ok-token.ensures c.in-Some.is).takes refl) }

pub read_primary-returns-in_err-token-2-clause-reads : goal.read_primary-returns-in_err-token-2-clause-reads
read_primary-returns-in_err-token-2-clause-reads t c = passes (lexemes c.args.tokens.now) c.args.cursor c.args.cursor classes.Word _ _ _ (unseen (start parts.Primary _) (absent classes.Number (lexeme c.args.tokens.now.source) (lexemes c.args.tokens.now) c.args.cursor c.in_ok-token.ensures c.in_default.is)) (λ t. refl) c.in_err-token-2.ensures c.from_residual-in_err-token-2.ensures.1

pub read_primary-returns-in-Some-2-clause-extends : goal.read_primary-returns-in-Some-2-clause-extends
read_primary-returns-in-Some-2-clause-extends t c = extends_on (c.add_named.ensures.extends) c.read_suffixes.ensures.extends

pub read_primary-returns-in-Some-2-clause-reads : goal.read_primary-returns-in-Some-2-clause-reads
read_primary-returns-in-Some-2-clause-reads t c = answers (lexemes c.args.tokens.now) c.args.cursor c.in-Some-2.next _ _ (go_as (λ z. Rest (parts.Suffixes true z)) (named_none _ forms.Identifier kinds.Identifier (lexeme c.args.tokens.now.source c.in-Some-2.token) c.in-Some-2.token.span c.in_ok-node-2.ensures.builds c.new-in-Some-2.ensures) (seen (unseen (start parts.Primary _) (absent classes.Number (lexeme c.args.tokens.now.source) (lexemes c.args.tokens.now) c.args.cursor c.in_ok-token.ensures c.in_default.is)) (present classes.Word (lexeme c.args.tokens.now.source) (lexemes c.args.tokens.now) c.args.cursor c.in_ok-token-2.ensures c.in-Some-2.is).takes refl)) (omega (arith, (present classes.Word (lexeme c.args.tokens.now.source) (lexemes c.args.tokens.now) c.args.cursor c.in_ok-token-2.ensures c.in-Some-2.is).place)) refl c.read_suffixes.ensures.reads

pub read_primary-returns-in_err-opening-clause-reads : goal.read_primary-returns-in_err-opening-clause-reads
read_primary-returns-in_err-opening-clause-reads t c = misses (lexemes c.args.tokens.now) c.args.cursor c.args.cursor (mark marks.Open) _ _ _ c.requires.at (unseen (unseen (start parts.Primary _) (absent classes.Number (lexeme c.args.tokens.now.source) (lexemes c.args.tokens.now) c.args.cursor c.in_ok-token.ensures c.in_default.is)) (absent classes.Word (lexeme c.args.tokens.now.source) (lexemes c.args.tokens.now) c.args.cursor c.in_ok-token-2.ensures c.in_default-2.is)) refl (λ t. refl) c.in_err-opening.ensures c.from_residual-in_err-opening.ensures.1

pub read_primary-returns-clause-reads : goal.read_primary-returns-clause-reads
read_primary-returns-clause-reads t c = answers (lexemes c.args.tokens.now) c.args.cursor c.in_ok-opening.next _ _ (seen (unseen (unseen (start parts.Primary _) (absent classes.Number (lexeme c.args.tokens.now.source) (lexemes c.args.tokens.now) c.args.cursor c.in_ok-token.ensures c.in_default.is)) (absent classes.Word (lexeme c.args.tokens.now.source) (lexemes c.args.tokens.now) c.args.cursor c.in_ok-token-2.ensures c.in_default-2.is)) c.in_ok-opening.ensures.takes refl) (omega (arith, c.in_ok-opening.ensures.place)) refl c.read_parens.ensures.reads

pub read_parens-returns-in_err-token-clause-reads : goal.read_parens-returns-in_err-token-clause-reads
read_parens-returns-in_err-token-clause-reads t c = passes (lexemes c.args.tokens.now) c.args.cursor c.args.cursor (word words.If) _ _ _ (start (parts.Parens _) _) (λ t. refl) c.in_err-token.ensures c.from_residual.ensures.1

pub read_parens-returns-in_default-clause-reads : goal.read_parens-returns-in_default-clause-reads
read_parens-returns-in_default-clause-reads t c = answers (lexemes c.args.tokens.now) c.args.cursor c.args.cursor _ _ (unseen (start (parts.Parens _) _) (absent (word words.If) (lexeme c.args.tokens.now.source) (lexemes c.args.tokens.now) c.args.cursor c.in_ok-token.ensures c.in_default.is)) (omega arith) refl c.read_in_parens.ensures.reads

pub read_parens-returns-in_err-inner-clause-reads : goal.read_parens-returns-in_err-inner-clause-reads
read_parens-returns-in_err-inner-clause-reads t c = fails (lexemes c.args.tokens.now) c.args.cursor c.in-Some.next _ _ _ (seen (start (parts.Parens _) _) (present (word words.If) (lexeme c.args.tokens.now.source) (lexemes c.args.tokens.now) c.args.cursor c.in_ok-token.ensures c.in-Some.is).takes refl) (λ b. refl) c.in_err-inner.ensures.reads c.from_residual-in_err-inner.ensures.1

pub read_parens-returns-in_err-closing-clause-reads : goal.read_parens-returns-in_err-closing-clause-reads
read_parens-returns-in_err-closing-clause-reads t c = misses (lexemes c.args.tokens.now) c.args.cursor c.in_ok-inner.end (mark marks.Close) _ _ _ c.in_ok-inner.ensures.reads.ends (done (seen (start (parts.Parens _) _) (present (word words.If) (lexeme c.args.tokens.now.source) (lexemes c.args.tokens.now) c.args.cursor c.in_ok-token.ensures c.in-Some.is).takes refl) c.in_ok-inner.ensures.reads.reads (λ b. refl)) refl (λ t. refl) c.in_err-closing.ensures c.from_residual-in_err-closing.ensures.1

pub read_parens-returns-clause-extends : goal.read_parens-returns-clause-extends
read_parens-returns-clause-extends t c = extends_on (c.read_conditional.ensures.extends) c.add_one.ensures.extends

pub read_parens-returns-clause-reads : goal.read_parens-returns-clause-reads
read_parens-returns-clause-reads t c = record { within = c.in_ok-node.ensures.within; forward = omega (arith, (present (word words.If) (lexeme c.args.tokens.now.source) (lexemes c.args.tokens.now) c.args.cursor c.in_ok-token.ensures c.in-Some.is).place, c.in_ok-inner.ensures.reads.forward, c.in_ok-closing.ensures.place); ends = omega (arith, c.in_ok-closing.ensures.place, c.in_ok-closing.ensures.within); reads = go_as Gives (over_one forms.Simple kinds.Parenthesized ((phrase (trees c.read_conditional.new.exprs) c.in_ok-inner.inner).tree ∷ []) (phrases.join c.args.opening.span c.in_ok-closing.closing.span) c.in_ok-node.ensures.builds refl c.join-span.ensures) (seen (done (seen (start (parts.Parens _) _) (present (word words.If) (lexeme c.args.tokens.now.source) (lexemes c.args.tokens.now) c.args.cursor c.in_ok-token.ensures c.in-Some.is).takes refl) c.in_ok-inner.ensures.reads.reads (λ b. refl)) c.in_ok-closing.ensures.takes refl) }

pub read_conditional-returns-in_err-condition-clause-reads : goal.read_conditional-returns-in_err-condition-clause-reads
read_conditional-returns-in_err-condition-clause-reads t c = fails (lexemes c.args.tokens.now) c.args.cursor c.args.cursor _ _ _ (start (parts.Condition _) _) (λ b. refl) c.in_err-condition.ensures.reads c.from_residual.ensures.1

pub read_conditional-returns-in_err-next-clause-reads : goal.read_conditional-returns-in_err-next-clause-reads
read_conditional-returns-in_err-next-clause-reads t c = misses (lexemes c.args.tokens.now) c.args.cursor c.in_ok-condition.next (word words.Then) _ _ _ c.in_ok-condition.ensures.reads.ends (done (start (parts.Condition _) _) c.in_ok-condition.ensures.reads.reads (λ b. refl)) refl (λ t. refl) c.in_err-next.ensures c.from_residual-in_err-next.ensures.1

pub read_conditional-returns-in_err-value-clause-reads : goal.read_conditional-returns-in_err-value-clause-reads
read_conditional-returns-in_err-value-clause-reads t c = fails (lexemes c.args.tokens.now) c.args.cursor c.in_ok-next.next _ _ _ (seen (done (start (parts.Condition _) _) c.in_ok-condition.ensures.reads.reads (λ b. refl)) c.in_ok-next.ensures.takes refl) (λ b. refl) c.in_err-value.ensures.reads c.from_residual-in_err-value.ensures.1

pub read_conditional-loop-arms-init : goal.read_conditional-loop-arms-init
read_conditional-loop-arms-init t c = record { below = below_two _ _ c.in_ok-arms.ensures (within_on c.read_expr-2.ensures.extends c.in_ok-condition.ensures.reads.within) c.in_ok-value.ensures.reads.within; forward = omega (arith, c.in_ok-condition.ensures.reads.forward, c.in_ok-next.ensures.place, c.in_ok-value.ensures.reads.forward); ends = c.in_ok-value.ensures.reads.ends; extends = extends_on c.read_expr.ensures.extends c.read_expr-2.ensures.extends; awaits = rest_as (λ (z : List Tree). parts.Arms (lexeme c.args.tokens.now.source c.args.token) z) (trees_two _ _ _ c.in_ok-arms.ensures ∙ stays_first c.read_expr-2.ensures.extends c.in_ok-condition.ensures.reads.within) (done (seen (done (start (parts.Condition _) _) c.in_ok-condition.ensures.reads.reads (λ b. refl)) c.in_ok-next.ensures.takes refl) c.in_ok-value.ensures.reads.reads (λ b. refl)) }

pub read_conditional-returns-in_err-behind-clause-reads : goal.read_conditional-returns-in_err-behind-clause-reads
read_conditional-returns-in_err-behind-clause-reads t c = passes (lexemes c.args.tokens.now) c.args.cursor c.loop-arms.next (word words.Elsif) _ _ _ (opened c.loop-arms.invariant.awaits) (λ t. refl) c.in_err-behind.ensures c.from_residual-in_err-behind.ensures.1

pub read_conditional-returns-in_err-condition-2-clause-reads : goal.read_conditional-returns-in_err-condition-2-clause-reads
read_conditional-returns-in_err-condition-2-clause-reads t c = fails (lexemes c.args.tokens.now) c.args.cursor c.in-Some.behind _ _ _ (seen (opened c.loop-arms.invariant.awaits) (present (word words.Elsif) (lexeme c.args.tokens.now.source) (lexemes c.args.tokens.now) c.loop-arms.next c.in_ok-behind.ensures c.in-Some.is).takes refl) (λ b. refl) c.in_err-condition-2.ensures.reads c.from_residual-in_err-condition-2.ensures.1

pub read_conditional-returns-in_err-behind-2-clause-reads : goal.read_conditional-returns-in_err-behind-2-clause-reads
read_conditional-returns-in_err-behind-2-clause-reads t c = misses (lexemes c.args.tokens.now) c.args.cursor c.in_ok-condition-2.behind (word words.Then) _ _ _ c.in_ok-condition-2.ensures.reads.ends (done (seen (opened c.loop-arms.invariant.awaits) (present (word words.Elsif) (lexeme c.args.tokens.now.source) (lexemes c.args.tokens.now) c.loop-arms.next c.in_ok-behind.ensures c.in-Some.is).takes refl) c.in_ok-condition-2.ensures.reads.reads (λ b. refl)) refl (λ t. refl) c.in_err-behind-2.ensures c.from_residual-in_err-behind-2.ensures.1

pub read_conditional-returns-in_err-value-2-clause-extends : goal.read_conditional-returns-in_err-value-2-clause-extends
read_conditional-returns-in_err-value-2-clause-extends t c = extends_on (extends_on c.loop-arms.invariant.extends c.read_expr-in-Some.ensures.extends) c.read_expr-in-Some-2.ensures.extends

pub read_conditional-returns-in_err-value-2-clause-reads : goal.read_conditional-returns-in_err-value-2-clause-reads
read_conditional-returns-in_err-value-2-clause-reads t c = fails (lexemes c.args.tokens.now) c.args.cursor c.in_ok-behind-2.behind _ _ _ (seen (done (seen (opened c.loop-arms.invariant.awaits) (present (word words.Elsif) (lexeme c.args.tokens.now.source) (lexemes c.args.tokens.now) c.loop-arms.next c.in_ok-behind.ensures c.in-Some.is).takes refl) c.in_ok-condition-2.ensures.reads.reads (λ b. refl)) c.in_ok-behind-2.ensures.takes refl) (λ b. refl) c.in_err-value-2.ensures.reads c.from_residual-in_err-value-2.ensures.1

pub read_conditional-returns-in_err-push-clause-extends : goal.read_conditional-returns-in_err-push-clause-extends
read_conditional-returns-in_err-push-clause-extends t c = extends_on (extends_on c.loop-arms.invariant.extends c.read_expr-in-Some.ensures.extends) c.read_expr-in-Some-2.ensures.extends

pub read_conditional-returns-in_err-push-2-clause-extends : goal.read_conditional-returns-in_err-push-2-clause-extends
read_conditional-returns-in_err-push-2-clause-extends t c = extends_on (extends_on c.loop-arms.invariant.extends c.read_expr-in-Some.ensures.extends) c.read_expr-in-Some-2.ensures.extends

pub read_conditional-loop-arms-preserved : goal.read_conditional-loop-arms-preserved
read_conditional-loop-arms-preserved t c = record { below = items_below _ _ c.in_ok-push-2.ensures.ok c.read_expr-in-Some-2.ensures.extends (items_below _ _ c.in_ok-push.ensures.ok c.read_expr-in-Some.ensures.extends c.loop-arms.invariant.below c.in_ok-condition-2.ensures.reads.within) c.in_ok-value-2.ensures.reads.within; forward = omega (arith, c.loop-arms.invariant.forward, (present (word words.Elsif) (lexeme c.args.tokens.now.source) (lexemes c.args.tokens.now) c.loop-arms.next c.in_ok-behind.ensures c.in-Some.is).place, c.in_ok-condition-2.ensures.reads.forward, c.in_ok-behind-2.ensures.place, c.in_ok-value-2.ensures.reads.forward); ends = c.in_ok-value-2.ensures.reads.ends; extends = extends_on (extends_on c.loop-arms.invariant.extends c.read_expr-in-Some.ensures.extends) c.read_expr-in-Some-2.ensures.extends; awaits = rest_as (λ (z : List Tree). parts.Arms (lexeme c.args.tokens.now.source c.args.token) z) (items_more _ _ c.in_ok-push-2.ensures.ok c.read_expr-in-Some-2.ensures.extends (items_below _ _ c.in_ok-push.ensures.ok c.read_expr-in-Some.ensures.extends c.loop-arms.invariant.below c.in_ok-condition-2.ensures.reads.within) ∙ ap (λ (z : List Tree). z ++ tree_at (trees c.read_expr-in-Some-2.new.exprs) c.in_ok-value-2.value.node ∷ []) (items_more _ _ c.in_ok-push.ensures.ok c.read_expr-in-Some.ensures.extends c.loop-arms.invariant.below)) (done (seen (done (seen (opened c.loop-arms.invariant.awaits) (present (word words.Elsif) (lexeme c.args.tokens.now.source) (lexemes c.args.tokens.now) c.loop-arms.next c.in_ok-behind.ensures c.in-Some.is).takes refl) c.in_ok-condition-2.ensures.reads.reads (λ b. refl)) c.in_ok-behind-2.ensures.takes refl) c.in_ok-value-2.ensures.reads.reads (λ b. refl)) }

pub read_conditional-returns-in_err-next-2-clause-reads : goal.read_conditional-returns-in_err-next-2-clause-reads
read_conditional-returns-in_err-next-2-clause-reads t c = misses (lexemes c.args.tokens.now) c.args.cursor c.loop-arms.next (word words.Else) _ _ _ c.loop-arms.invariant.ends (unseen (opened c.loop-arms.invariant.awaits) (absent (word words.Elsif) (lexeme c.args.tokens.now.source) (lexemes c.args.tokens.now) c.loop-arms.next c.in_ok-behind.ensures c.in_default.is)) refl (λ t. refl) c.in_err-next-2.ensures c.from_residual-in_err-next-2.ensures.1

pub read_conditional-returns-in_err-last-clause-reads : goal.read_conditional-returns-in_err-last-clause-reads
read_conditional-returns-in_err-last-clause-reads t c = fails (lexemes c.args.tokens.now) c.args.cursor c.in_ok-next-2.next _ _ _ (seen (unseen (opened c.loop-arms.invariant.awaits) (absent (word words.Elsif) (lexeme c.args.tokens.now.source) (lexemes c.args.tokens.now) c.loop-arms.next c.in_ok-behind.ensures c.in_default.is)) c.in_ok-next-2.ensures.takes refl) (λ b. refl) c.in_err-last.ensures.reads c.from_residual-in_err-last.ensures.1

pub read_conditional-add_node-requires : goal.read_conditional-add_node-requires
read_conditional-add_node-requires t c = record { below = items_below _ _ c.in_ok-push-3.ensures.ok c.read_expr-3.ensures.extends c.loop-arms.invariant.below c.in_ok-last.ensures.reads.within }

pub read_conditional-returns-clause-extends : goal.read_conditional-returns-clause-extends
read_conditional-returns-clause-extends t c = extends_on (extends_on c.loop-arms.invariant.extends c.read_expr-3.ensures.extends) c.add_node.ensures.extends

pub read_conditional-returns-clause-reads : goal.read_conditional-returns-clause-reads
read_conditional-returns-clause-reads t c = record { within = c.in_ok-node.ensures.within; forward = omega (arith, c.loop-arms.invariant.forward, c.in_ok-next-2.ensures.place, c.in_ok-last.ensures.reads.forward); ends = c.in_ok-last.ensures.reads.ends; reads = go_as Gives (over_one forms.Simple kinds.Conditional (trees_at (trees c.read_expr-3.new.exprs) c.push-2.new.self) (phrases.join c.args.token.span c.in_ok-last.last.span) c.in_ok-node.ensures.builds refl c.join.ensures ∙ ap (λ (z : List Tree). phrases.node forms.Simple kinds.Conditional (phrases.join c.args.token.span c.in_ok-last.last.span) z) (items_more _ _ c.in_ok-push-3.ensures.ok c.read_expr-3.ensures.extends c.loop-arms.invariant.below)) (done (seen (unseen (opened c.loop-arms.invariant.awaits) (absent (word words.Elsif) (lexeme c.args.tokens.now.source) (lexemes c.args.tokens.now) c.loop-arms.next c.in_ok-behind.ensures c.in_default.is)) c.in_ok-next-2.ensures.takes refl) c.in_ok-last.ensures.reads.reads (λ b. refl)) }

pub read_in_parens-returns-in_err-token-clause-reads : goal.read_in_parens-returns-in_err-token-clause-reads
read_in_parens-returns-in_err-token-clause-reads t c = passes (lexemes c.args.tokens.now) c.args.cursor c.args.cursor (word words.Others) _ _ _ (start (parts.InParens _) _) (λ t. refl) c.in_err-token.ensures c.from_residual.ensures.1

pub read_in_parens-returns-in-Some-clause-extends : goal.read_in_parens-returns-in-Some-clause-extends
read_in_parens-returns-in-Some-clause-extends t c = extends_on (c.add_node.ensures.extends) c.read_named_aggregate.ensures.extends

pub read_in_parens-returns-in-Some-clause-reads : goal.read_in_parens-returns-in-Some-clause-reads
read_in_parens-returns-in-Some-clause-reads t c = answers (lexemes c.args.tokens.now) c.args.cursor c.in-Some.next _ _ (go_as (λ z. Rest (parts.NamedFrom (lexeme c.args.tokens.now.source c.args.opening) z)) (over_none _ forms.Simple kinds.OthersChoice c.in-Some.token.span c.in_ok-choice.ensures.builds c.new.ensures) (seen (start (parts.InParens _) _) (present (word words.Others) (lexeme c.args.tokens.now.source) (lexemes c.args.tokens.now) c.args.cursor c.in_ok-token.ensures c.in-Some.is).takes refl)) (omega (arith, (present (word words.Others) (lexeme c.args.tokens.now.source) (lexemes c.args.tokens.now) c.args.cursor c.in_ok-token.ensures c.in-Some.is).place)) refl c.read_named_aggregate.ensures.reads

pub read_in_parens-returns-in_err-low-clause-reads : goal.read_in_parens-returns-in_err-low-clause-reads
read_in_parens-returns-in_err-low-clause-reads t c = fails (lexemes c.args.tokens.now) c.args.cursor c.args.cursor _ _ _ (unseen (start (parts.InParens _) _) (absent (word words.Others) (lexeme c.args.tokens.now.source) (lexemes c.args.tokens.now) c.args.cursor c.in_ok-token.ensures c.in_default.is)) (λ b. refl) c.in_err-low.ensures.reads c.from_residual-in_err-low.ensures.1

pub read_in_parens-returns-in_err-behind-clause-reads : goal.read_in_parens-returns-in_err-behind-clause-reads
read_in_parens-returns-in_err-behind-clause-reads t c = passes (lexemes c.args.tokens.now) c.args.cursor c.in_ok-low.next (mark marks.Dots) _ _ _ (done (unseen (start (parts.InParens _) _) (absent (word words.Others) (lexeme c.args.tokens.now.source) (lexemes c.args.tokens.now) c.args.cursor c.in_ok-token.ensures c.in_default.is)) c.in_ok-low.ensures.reads.reads (λ b. refl)) (λ t. refl) c.in_err-behind.ensures c.from_residual-in_err-behind.ensures.1

pub read_in_parens-returns-in_err-inner-clause-extends : goal.read_in_parens-returns-in_err-inner-clause-extends
read_in_parens-returns-in_err-inner-clause-extends t c = extends_on (c.read_simple.ensures.extends) c.continue_expr.ensures.extends

pub read_in_parens-returns-in_err-inner-clause-reads : goal.read_in_parens-returns-in_err-inner-clause-reads
read_in_parens-returns-in_err-inner-clause-reads t c = fails (lexemes c.args.tokens.now) c.args.cursor c.in_ok-low.next _ _ _ (unseen (done (unseen (start (parts.InParens _) _) (absent (word words.Others) (lexeme c.args.tokens.now.source) (lexemes c.args.tokens.now) c.args.cursor c.in_ok-token.ensures c.in_default.is)) c.in_ok-low.ensures.reads.reads (λ b. refl)) (absent (mark marks.Dots) (lexeme c.args.tokens.now.source) (lexemes c.args.tokens.now) c.in_ok-low.next c.in_ok-behind.ensures c.in_default-2.is)) (λ b. refl) c.in_err-inner.ensures.reads c.from_residual-in_err-inner.ensures.1

pub read_in_parens-returns-in_default-2-clause-extends : goal.read_in_parens-returns-in_default-2-clause-extends
read_in_parens-returns-in_default-2-clause-extends t c = extends_on (extends_on (c.read_simple.ensures.extends) c.continue_expr.ensures.extends) c.behind_inner.ensures.extends

pub read_in_parens-returns-in_default-2-clause-reads : goal.read_in_parens-returns-in_default-2-clause-reads
read_in_parens-returns-in_default-2-clause-reads t c = answers (lexemes c.args.tokens.now) c.args.cursor c.in_ok-inner.end _ _ (done (unseen (done (unseen (start (parts.InParens _) _) (absent (word words.Others) (lexeme c.args.tokens.now.source) (lexemes c.args.tokens.now) c.args.cursor c.in_ok-token.ensures c.in_default.is)) c.in_ok-low.ensures.reads.reads (λ b. refl)) (absent (mark marks.Dots) (lexeme c.args.tokens.now.source) (lexemes c.args.tokens.now) c.in_ok-low.next c.in_ok-behind.ensures c.in_default-2.is)) c.in_ok-inner.ensures.reads.reads (λ b. refl)) (omega (arith, c.in_ok-low.ensures.reads.forward, c.in_ok-inner.ensures.reads.forward)) refl c.behind_inner.ensures.reads

pub read_in_parens-returns-in_err-high-clause-extends : goal.read_in_parens-returns-in_err-high-clause-extends
read_in_parens-returns-in_err-high-clause-extends t c = extends_on (c.read_simple.ensures.extends) c.read_simple-2.ensures.extends

pub read_in_parens-returns-in_err-high-clause-reads : goal.read_in_parens-returns-in_err-high-clause-reads
read_in_parens-returns-in_err-high-clause-reads t c = fails (lexemes c.args.tokens.now) c.args.cursor c.in-Some-2.behind _ _ _ (seen (done (unseen (start (parts.InParens _) _) (absent (word words.Others) (lexeme c.args.tokens.now.source) (lexemes c.args.tokens.now) c.args.cursor c.in_ok-token.ensures c.in_default.is)) c.in_ok-low.ensures.reads.reads (λ b. refl)) (present (mark marks.Dots) (lexeme c.args.tokens.now.source) (lexemes c.args.tokens.now) c.in_ok-low.next c.in_ok-behind.ensures c.in-Some-2.is).takes refl) (λ b. refl) c.in_err-high.ensures.reads c.from_residual-in_err-high.ensures.1

pub read_in_parens-add_two-requires-clause-a : goal.read_in_parens-add_two-requires-clause-a
read_in_parens-add_two-requires-clause-a t c = within_on c.read_simple-2.ensures.extends c.in_ok-low.ensures.reads.within

pub read_in_parens-returns-in_err-choice-2-clause-extends : goal.read_in_parens-returns-in_err-choice-2-clause-extends
read_in_parens-returns-in_err-choice-2-clause-extends t c = extends_on (extends_on (c.read_simple.ensures.extends) c.read_simple-2.ensures.extends) c.add_two.ensures.extends

pub read_in_parens-returns-clause-extends : goal.read_in_parens-returns-clause-extends
read_in_parens-returns-clause-extends t c = extends_on (extends_on (extends_on (c.read_simple.ensures.extends) c.read_simple-2.ensures.extends) c.add_two.ensures.extends) c.read_named_aggregate-2.ensures.extends

pub read_in_parens-returns-clause-reads : goal.read_in_parens-returns-clause-reads
read_in_parens-returns-clause-reads t c = answers (lexemes c.args.tokens.now) c.args.cursor c.in_ok-high.end _ _ (go_as (λ z. Rest (parts.NamedFrom (lexeme c.args.tokens.now.source c.args.opening) z)) (over_two c.read_simple.new.exprs c.read_simple-2.new.exprs forms.Simple kinds.RangeChoice c.in_ok-low.low c.in_ok-high.high c.in_ok-choice-2.ensures.builds refl c.join-span.ensures c.read_simple-2.ensures.extends c.in_ok-low.ensures.reads.within) (done (seen (done (unseen (start (parts.InParens _) _) (absent (word words.Others) (lexeme c.args.tokens.now.source) (lexemes c.args.tokens.now) c.args.cursor c.in_ok-token.ensures c.in_default.is)) c.in_ok-low.ensures.reads.reads (λ b. refl)) (present (mark marks.Dots) (lexeme c.args.tokens.now.source) (lexemes c.args.tokens.now) c.in_ok-low.next c.in_ok-behind.ensures c.in-Some-2.is).takes refl) c.in_ok-high.ensures.reads.reads (λ b. refl))) (omega (arith, c.in_ok-low.ensures.reads.forward, (present (mark marks.Dots) (lexeme c.args.tokens.now.source) (lexemes c.args.tokens.now) c.in_ok-low.next c.in_ok-behind.ensures c.in-Some-2.is).place, c.in_ok-high.ensures.reads.forward)) refl c.read_named_aggregate-2.ensures.reads

pub behind_inner-returns-in_err-closing-clause-reads : goal.behind_inner-returns-in_err-closing-clause-reads
behind_inner-returns-in_err-closing-clause-reads t c = passes (lexemes c.args.tokens.now) c.args.cursor c.args.cursor (mark marks.Close) _ _ _ (start (parts.BehindExpr _ _) _) (λ t. refl) c.in_err-closing.ensures c.from_residual.ensures.1

pub behind_inner-returns-in-Some-clause-reads : goal.behind_inner-returns-in-Some-clause-reads
behind_inner-returns-in-Some-clause-reads t c = record { within = c.in_ok-node.ensures.within; forward = omega (arith, (present (mark marks.Close) (lexeme c.args.tokens.now.source) (lexemes c.args.tokens.now) c.args.cursor c.in_ok-closing.ensures c.in-Some.is).place); ends = (omega (arith, (present (mark marks.Close) (lexeme c.args.tokens.now.source) (lexemes c.args.tokens.now) c.args.cursor c.in_ok-closing.ensures c.in-Some.is).place, (present (mark marks.Close) (lexeme c.args.tokens.now.source) (lexemes c.args.tokens.now) c.args.cursor c.in_ok-closing.ensures c.in-Some.is).within)); reads = go_as Gives (over_one forms.Simple kinds.Parenthesized ((phrase (trees c.args.exprs.now) c.args.inner).tree ∷ []) (phrases.join c.args.opening.span c.in-Some.closing.span) c.in_ok-node.ensures.builds refl c.join-span.ensures) (seen (start (parts.BehindExpr _ _) _) (present (mark marks.Close) (lexeme c.args.tokens.now.source) (lexemes c.args.tokens.now) c.args.cursor c.in_ok-closing.ensures c.in-Some.is).takes refl) }

pub behind_inner-returns-in_err-next-clause-reads : goal.behind_inner-returns-in_err-next-clause-reads
behind_inner-returns-in_err-next-clause-reads t c = passes (lexemes c.args.tokens.now) c.args.cursor c.args.cursor (mark marks.Comma) _ _ _ (unseen (start (parts.BehindExpr _ _) _) (absent (mark marks.Close) (lexeme c.args.tokens.now.source) (lexemes c.args.tokens.now) c.args.cursor c.in_ok-closing.ensures c.in_default.is)) (λ t. refl) c.in_err-next.ensures c.from_residual-in_err-next.ensures.1

pub behind_inner-returns-in_err-second-clause-reads : goal.behind_inner-returns-in_err-second-clause-reads
behind_inner-returns-in_err-second-clause-reads t c = fails (lexemes c.args.tokens.now) c.args.cursor c.in-Some-2.next _ _ _ (seen (unseen (start (parts.BehindExpr _ _) _) (absent (mark marks.Close) (lexeme c.args.tokens.now.source) (lexemes c.args.tokens.now) c.args.cursor c.in_ok-closing.ensures c.in_default.is)) (present (mark marks.Comma) (lexeme c.args.tokens.now.source) (lexemes c.args.tokens.now) c.args.cursor c.in_ok-next.ensures c.in-Some-2.is).takes refl) (λ b. refl) c.in_err-second.ensures.reads c.from_residual-in_err-second.ensures.1

pub behind_inner-read_items-requires : goal.behind_inner-read_items-requires
behind_inner-read_items-requires t c = (omega (arith, (present (mark marks.Comma) (lexeme c.args.tokens.now.source) (lexemes c.args.tokens.now) c.args.cursor c.in_ok-next.ensures c.in-Some-2.is).place, (present (mark marks.Comma) (lexeme c.args.tokens.now.source) (lexemes c.args.tokens.now) c.args.cursor c.in_ok-next.ensures c.in-Some-2.is).within, c.in_ok-second.ensures.reads.forward), (c.in_ok-second.ensures.reads.ends, below_two _ _ c.in_ok-items.ensures (within_on c.read_expr.ensures.extends c.requires.inner) c.in_ok-second.ensures.reads.within))

pub behind_inner-returns-in-Some-2-clause-extends : goal.behind_inner-returns-in-Some-2-clause-extends
behind_inner-returns-in-Some-2-clause-extends t c = extends_on (c.read_expr.ensures.extends) c.read_items.ensures.extends

pub behind_inner-returns-in-Some-2-clause-reads : goal.behind_inner-returns-in-Some-2-clause-reads
behind_inner-returns-in-Some-2-clause-reads t c = answers (lexemes c.args.tokens.now) c.args.cursor c.in_ok-second.end _ _ (rest_as (λ (z : List Tree). parts.Items (lexeme c.args.tokens.now.source c.args.opening) z) (trees_two _ _ _ c.in_ok-items.ensures ∙ stays_first c.read_expr.ensures.extends c.requires.inner) (done (seen (unseen (start (parts.BehindExpr _ _) _) (absent (mark marks.Close) (lexeme c.args.tokens.now.source) (lexemes c.args.tokens.now) c.args.cursor c.in_ok-closing.ensures c.in_default.is)) (present (mark marks.Comma) (lexeme c.args.tokens.now.source) (lexemes c.args.tokens.now) c.args.cursor c.in_ok-next.ensures c.in-Some-2.is).takes refl) c.in_ok-second.ensures.reads.reads (λ b. refl))) (omega (arith, (present (mark marks.Comma) (lexeme c.args.tokens.now.source) (lexemes c.args.tokens.now) c.args.cursor c.in_ok-next.ensures c.in-Some-2.is).place, c.in_ok-second.ensures.reads.forward)) refl c.read_items.ensures.reads

pub behind_inner-returns-clause-extends : goal.behind_inner-returns-clause-extends
behind_inner-returns-clause-extends t c = extends_on (c.add_one-2.ensures.extends) c.read_named_aggregate.ensures.extends

pub behind_inner-returns-clause-reads : goal.behind_inner-returns-clause-reads
behind_inner-returns-clause-reads t c = answers (lexemes c.args.tokens.now) c.args.cursor c.args.cursor _ _ (go_as (λ z. Rest (parts.NamedFrom (lexeme c.args.tokens.now.source c.args.opening) z)) (over_one forms.Simple kinds.ValueChoice ((phrase (trees c.args.exprs.now) c.args.inner).tree ∷ []) c.args.inner.span c.in_ok-choice.ensures.builds refl refl) (unseen (unseen (start (parts.BehindExpr _ _) _) (absent (mark marks.Close) (lexeme c.args.tokens.now.source) (lexemes c.args.tokens.now) c.args.cursor c.in_ok-closing.ensures c.in_default.is)) (absent (mark marks.Comma) (lexeme c.args.tokens.now.source) (lexemes c.args.tokens.now) c.args.cursor c.in_ok-next.ensures c.in_default-2.is))) (omega arith) refl c.read_named_aggregate.ensures.reads

pub read_items-loop-items-init : goal.read_items-loop-items-init
read_items-loop-items-init t c = record { below = c.requires.items; forward = omega arith; ends = c.requires.at; extends = extends_same _; awaits = whole _ _ }

pub read_items-returns-in_err-behind-clause-reads : goal.read_items-returns-in_err-behind-clause-reads
read_items-returns-in_err-behind-clause-reads t c = passes (lexemes c.args.tokens.now) c.args.cursor c.loop-items.next (mark marks.Comma) _ _ _ (opened c.loop-items.invariant.awaits) (λ t. refl) c.in_err-behind.ensures c.from_residual.ensures.1

pub read_items-returns-in_err-behind-2-clause-reads : goal.read_items-returns-in_err-behind-2-clause-reads
read_items-returns-in_err-behind-2-clause-reads t c = passes (lexemes c.args.tokens.now) c.args.cursor c.in-Some.behind (word words.Others) _ _ _ (seen (opened c.loop-items.invariant.awaits) (present (mark marks.Comma) (lexeme c.args.tokens.now.source) (lexemes c.args.tokens.now) c.loop-items.next c.in_ok-behind.ensures c.in-Some.is).takes refl) (λ t. refl) c.in_err-behind-2.ensures c.from_residual-in_err-behind-2.ensures.1

pub read_items-returns-in-Some-2-clause-reads : goal.read_items-returns-in-Some-2-clause-reads
read_items-returns-in-Some-2-clause-reads t c = answers (lexemes c.args.tokens.now) c.args.cursor c.in-Some-2.behind _ _ (seen (seen (opened c.loop-items.invariant.awaits) (present (mark marks.Comma) (lexeme c.args.tokens.now.source) (lexemes c.args.tokens.now) c.loop-items.next c.in_ok-behind.ensures c.in-Some.is).takes refl) (present (word words.Others) (lexeme c.args.tokens.now.source) (lexemes c.args.tokens.now) c.in-Some.behind c.in_ok-behind-2.ensures c.in-Some-2.is).takes refl) (omega (arith, c.loop-items.invariant.forward, (present (mark marks.Comma) (lexeme c.args.tokens.now.source) (lexemes c.args.tokens.now) c.loop-items.next c.in_ok-behind.ensures c.in-Some.is).place, (present (word words.Others) (lexeme c.args.tokens.now.source) (lexemes c.args.tokens.now) c.in-Some.behind c.in_ok-behind-2.ensures c.in-Some-2.is).place)) refl c.read_last_item.ensures.reads

pub read_items-returns-in_err-item-clause-reads : goal.read_items-returns-in_err-item-clause-reads
read_items-returns-in_err-item-clause-reads t c = fails (lexemes c.args.tokens.now) c.args.cursor c.in-Some.behind _ _ _ (unseen (seen (opened c.loop-items.invariant.awaits) (present (mark marks.Comma) (lexeme c.args.tokens.now.source) (lexemes c.args.tokens.now) c.loop-items.next c.in_ok-behind.ensures c.in-Some.is).takes refl) (absent (word words.Others) (lexeme c.args.tokens.now.source) (lexemes c.args.tokens.now) c.in-Some.behind c.in_ok-behind-2.ensures c.in_default-2.is)) (λ b. refl) c.in_err-item.ensures.reads c.from_residual-in_err-item.ensures.1

pub read_items-loop-items-preserved : goal.read_items-loop-items-preserved
read_items-loop-items-preserved t c = record { below = items_below _ _ c.in_ok-push.ensures.ok c.read_expr.ensures.extends c.loop-items.invariant.below c.in_ok-item.ensures.reads.within; forward = omega (arith, c.loop-items.invariant.forward, (present (mark marks.Comma) (lexeme c.args.tokens.now.source) (lexemes c.args.tokens.now) c.loop-items.next c.in_ok-behind.ensures c.in-Some.is).place, c.in_ok-item.ensures.reads.forward); ends = c.in_ok-item.ensures.reads.ends; extends = extends_on c.loop-items.invariant.extends c.read_expr.ensures.extends; awaits = rest_as (λ (z : List Tree). parts.Items (lexeme c.args.tokens.now.source c.args.opening) z) (items_more _ _ c.in_ok-push.ensures.ok c.read_expr.ensures.extends c.loop-items.invariant.below) (done (unseen (seen (opened c.loop-items.invariant.awaits) (present (mark marks.Comma) (lexeme c.args.tokens.now.source) (lexemes c.args.tokens.now) c.loop-items.next c.in_ok-behind.ensures c.in-Some.is).takes refl) (absent (word words.Others) (lexeme c.args.tokens.now.source) (lexemes c.args.tokens.now) c.in-Some.behind c.in_ok-behind-2.ensures c.in_default-2.is)) c.in_ok-item.ensures.reads.reads (λ b. refl)) }

pub read_items-returns-in_err-closing-clause-reads : goal.read_items-returns-in_err-closing-clause-reads
read_items-returns-in_err-closing-clause-reads t c = misses (lexemes c.args.tokens.now) c.args.cursor c.loop-items.next (mark marks.Close) _ _ _ c.loop-items.invariant.ends (unseen (opened c.loop-items.invariant.awaits) (absent (mark marks.Comma) (lexeme c.args.tokens.now.source) (lexemes c.args.tokens.now) c.loop-items.next c.in_ok-behind.ensures c.in_default.is)) refl (λ t. refl) c.in_err-closing.ensures c.from_residual-in_err-closing.ensures.1

pub read_items-returns-clause-reads : goal.read_items-returns-clause-reads
read_items-returns-clause-reads t c = record { within = c.in_ok-node.ensures.within; forward = omega (arith, c.loop-items.invariant.forward, c.in_ok-closing.ensures.place); ends = omega (arith, c.in_ok-closing.ensures.place, c.in_ok-closing.ensures.within); reads = go_as Gives (over_one forms.Simple (kinds.PositionalAggregate false) (trees_at (trees c.loop-items.exprs) c.loop-items.items) (phrases.join c.args.opening.span c.in_ok-closing.closing.span) c.in_ok-node.ensures.builds refl c.join.ensures) (seen (unseen (opened c.loop-items.invariant.awaits) (absent (mark marks.Comma) (lexeme c.args.tokens.now.source) (lexemes c.args.tokens.now) c.loop-items.next c.in_ok-behind.ensures c.in_default.is)) c.in_ok-closing.ensures.takes refl) }

pub read_last_item-returns-in_err-next-clause-reads : goal.read_last_item-returns-in_err-next-clause-reads
read_last_item-returns-in_err-next-clause-reads t c = misses (lexemes c.args.tokens.now) c.args.cursor c.args.cursor (mark marks.Arrow) _ _ _ c.requires.at (start (parts.LastItem _ _) _) refl (λ t. refl) c.in_err-next.ensures c.from_residual.ensures.1

pub read_last_item-returns-in_err-last-clause-reads : goal.read_last_item-returns-in_err-last-clause-reads
read_last_item-returns-in_err-last-clause-reads t c = fails (lexemes c.args.tokens.now) c.args.cursor c.in_ok-next.next _ _ _ (seen (start (parts.LastItem _ _) _) c.in_ok-next.ensures.takes refl) (λ b. refl) c.in_err-last.ensures.reads c.from_residual-in_err-last.ensures.1

pub read_last_item-returns-in_err-closing-clause-reads : goal.read_last_item-returns-in_err-closing-clause-reads
read_last_item-returns-in_err-closing-clause-reads t c = misses (lexemes c.args.tokens.now) c.args.cursor c.in_ok-last.next (mark marks.Close) _ _ _ c.in_ok-last.ensures.reads.ends (done (seen (start (parts.LastItem _ _) _) c.in_ok-next.ensures.takes refl) c.in_ok-last.ensures.reads.reads (λ b. refl)) refl (λ t. refl) c.in_err-closing.ensures c.from_residual-in_err-closing.ensures.1

pub read_last_item-add_node-requires : goal.read_last_item-add_node-requires
read_last_item-add_node-requires t c = record { below = items_below _ _ c.in_ok-push.ensures.ok c.read_expr.ensures.extends c.requires.items c.in_ok-last.ensures.reads.within }

pub read_last_item-returns-clause-extends : goal.read_last_item-returns-clause-extends
read_last_item-returns-clause-extends t c = extends_on (c.read_expr.ensures.extends) c.add_node.ensures.extends

pub read_last_item-returns-clause-reads : goal.read_last_item-returns-clause-reads
read_last_item-returns-clause-reads t c = record { within = c.in_ok-node.ensures.within; forward = omega (arith, c.in_ok-next.ensures.place, c.in_ok-last.ensures.reads.forward, c.in_ok-closing.ensures.place); ends = omega (arith, c.in_ok-closing.ensures.place, c.in_ok-closing.ensures.within); reads = go_as (λ z. Gives z) (over_one forms.Simple (kinds.PositionalAggregate true) (trees_at (trees c.read_expr.new.exprs) c.push.new.self) (phrases.join c.args.opening.span c.in_ok-closing.closing.span) c.in_ok-node.ensures.builds refl c.join.ensures ∙ ap (λ (z : List Tree). phrases.positional true (lexeme c.args.tokens.now.source c.args.opening) z (lexeme c.args.tokens.now.source c.in_ok-closing.closing)) (items_more _ _ c.in_ok-push.ensures.ok c.read_expr.ensures.extends c.requires.items)) (seen (done (seen (start (parts.LastItem _ _) _) c.in_ok-next.ensures.takes refl) c.in_ok-last.ensures.reads.reads (λ b. refl)) c.in_ok-closing.ensures.takes refl) }

pub read_named_aggregate-returns-in_err-first-clause-reads : goal.read_named_aggregate-returns-in_err-first-clause-reads
read_named_aggregate-returns-in_err-first-clause-reads t c = fails (lexemes c.args.tokens.now) c.args.cursor c.args.cursor _ _ _ (start (parts.NamedFrom _ _) _) (λ b. refl) c.in_err-first.ensures.reads c.from_residual.ensures.1

pub read_named_aggregate-loop-associations-init : goal.read_named_aggregate-loop-associations-init
read_named_aggregate-loop-associations-init t c = record { below = below_one _ c.in_ok-associations.ensures c.in_ok-first.ensures.reads.within; forward = c.in_ok-first.ensures.reads.forward; ends = c.in_ok-first.ensures.reads.ends; extends = c.rest_of_association.ensures.extends; awaits = rest_as (λ (z : List Tree). parts.Associations (lexeme c.args.tokens.now.source c.args.opening) z) (trees_one _ _ c.in_ok-associations.ensures) (done (start (parts.NamedFrom _ _) _) c.in_ok-first.ensures.reads.reads (λ b. refl)) }

pub read_named_aggregate-returns-in_err-behind-clause-extends : goal.read_named_aggregate-returns-in_err-behind-clause-extends
read_named_aggregate-returns-in_err-behind-clause-extends t c = c.loop-associations.invariant.extends

pub read_named_aggregate-returns-in_err-behind-clause-reads : goal.read_named_aggregate-returns-in_err-behind-clause-reads
read_named_aggregate-returns-in_err-behind-clause-reads t c = passes (lexemes c.args.tokens.now) c.args.cursor c.loop-associations.next (mark marks.Comma) _ _ _ (opened c.loop-associations.invariant.awaits) (λ t. refl) c.in_err-behind.ensures c.from_residual-in_err-behind.ensures.1

pub read_named_aggregate-returns-in_err-association-clause-extends : goal.read_named_aggregate-returns-in_err-association-clause-extends
read_named_aggregate-returns-in_err-association-clause-extends t c = extends_on c.loop-associations.invariant.extends c.read_association.ensures.extends

pub read_named_aggregate-returns-in_err-association-clause-reads : goal.read_named_aggregate-returns-in_err-association-clause-reads
read_named_aggregate-returns-in_err-association-clause-reads t c = fails (lexemes c.args.tokens.now) c.args.cursor c.in-Some.behind _ _ _ (seen (opened c.loop-associations.invariant.awaits) (present (mark marks.Comma) (lexeme c.args.tokens.now.source) (lexemes c.args.tokens.now) c.loop-associations.next c.in_ok-behind.ensures c.in-Some.is).takes refl) (λ b. refl) c.in_err-association.ensures.reads c.from_residual-in_err-association.ensures.1

pub read_named_aggregate-loop-associations-preserved : goal.read_named_aggregate-loop-associations-preserved
read_named_aggregate-loop-associations-preserved t c = record { below = items_below _ _ c.in_ok-push.ensures.ok c.read_association.ensures.extends c.loop-associations.invariant.below c.in_ok-association.ensures.reads.within; forward = omega (arith, c.loop-associations.invariant.forward, (present (mark marks.Comma) (lexeme c.args.tokens.now.source) (lexemes c.args.tokens.now) c.loop-associations.next c.in_ok-behind.ensures c.in-Some.is).place, c.in_ok-association.ensures.reads.forward); ends = c.in_ok-association.ensures.reads.ends; extends = extends_on c.loop-associations.invariant.extends c.read_association.ensures.extends; awaits = rest_as (λ (z : List Tree). parts.Associations (lexeme c.args.tokens.now.source c.args.opening) z) (items_more _ _ c.in_ok-push.ensures.ok c.read_association.ensures.extends c.loop-associations.invariant.below) (done (seen (opened c.loop-associations.invariant.awaits) (present (mark marks.Comma) (lexeme c.args.tokens.now.source) (lexemes c.args.tokens.now) c.loop-associations.next c.in_ok-behind.ensures c.in-Some.is).takes refl) c.in_ok-association.ensures.reads.reads (λ b. refl)) }

pub read_named_aggregate-returns-in_err-closing-clause-extends : goal.read_named_aggregate-returns-in_err-closing-clause-extends
read_named_aggregate-returns-in_err-closing-clause-extends t c = c.loop-associations.invariant.extends

pub read_named_aggregate-returns-in_err-closing-clause-reads : goal.read_named_aggregate-returns-in_err-closing-clause-reads
read_named_aggregate-returns-in_err-closing-clause-reads t c = misses (lexemes c.args.tokens.now) c.args.cursor c.loop-associations.next (mark marks.Close) _ _ _ c.loop-associations.invariant.ends (unseen (opened c.loop-associations.invariant.awaits) (absent (mark marks.Comma) (lexeme c.args.tokens.now.source) (lexemes c.args.tokens.now) c.loop-associations.next c.in_ok-behind.ensures c.in_default.is)) refl (λ t. refl) c.in_err-closing.ensures c.from_residual-in_err-closing.ensures.1

pub read_named_aggregate-returns-clause-extends : goal.read_named_aggregate-returns-clause-extends
read_named_aggregate-returns-clause-extends t c = extends_on c.loop-associations.invariant.extends c.add_node.ensures.extends

pub read_named_aggregate-returns-clause-reads : goal.read_named_aggregate-returns-clause-reads
read_named_aggregate-returns-clause-reads t c = record { within = c.in_ok-node.ensures.within; forward = omega (arith, c.loop-associations.invariant.forward, c.in_ok-closing.ensures.place); ends = omega (arith, c.in_ok-closing.ensures.place, c.in_ok-closing.ensures.within); reads = go_as Gives (over_one forms.Simple kinds.NamedAggregate (trees_at (trees c.loop-associations.exprs) c.loop-associations.associations) (phrases.join c.args.opening.span c.in_ok-closing.closing.span) c.in_ok-node.ensures.builds refl c.join-span.ensures) (seen (unseen (opened c.loop-associations.invariant.awaits) (absent (mark marks.Comma) (lexeme c.args.tokens.now.source) (lexemes c.args.tokens.now) c.loop-associations.next c.in_ok-behind.ensures c.in_default.is)) c.in_ok-closing.ensures.takes refl) }

pub read_association-returns-in_err-choice-clause-reads : goal.read_association-returns-in_err-choice-clause-reads
read_association-returns-in_err-choice-clause-reads t c = fails (lexemes c.args.tokens.now) c.args.cursor c.args.cursor _ _ _ (start parts.Association _) (λ b. refl) c.in_err-choice.ensures.reads c.from_residual.ensures.1

pub read_association-returns-clause-extends : goal.read_association-returns-clause-extends
read_association-returns-clause-extends t c = extends_on (c.read_choice.ensures.extends) c.rest_of_association.ensures.extends

pub read_association-returns-clause-reads : goal.read_association-returns-clause-reads
read_association-returns-clause-reads t c = answers (lexemes c.args.tokens.now) c.args.cursor c.in_ok-choice.next _ _ (done (start parts.Association _) c.in_ok-choice.ensures.reads.reads (λ b. refl)) c.in_ok-choice.ensures.reads.forward refl c.rest_of_association.ensures.reads

pub rest_of_association-loop-children-init : goal.rest_of_association-loop-children-init
rest_of_association-loop-children-init t c = record { below = below_one _ c.in_ok-children.ensures c.requires.choice; forward = omega arith; ends = c.requires.at; extends = extends_same _; awaits = rest_as (λ (z : List Tree). parts.Choices c.args.choice.span z) (trees_one _ _ c.in_ok-children.ensures) (whole _ _) }

pub rest_of_association-returns-in_err-behind-clause-reads : goal.rest_of_association-returns-in_err-behind-clause-reads
rest_of_association-returns-in_err-behind-clause-reads t c = passes (lexemes c.args.tokens.now) c.args.cursor c.loop-children.next (mark marks.Bar) _ _ _ (opened c.loop-children.invariant.awaits) (λ t. refl) c.in_err-behind.ensures c.from_residual-in_err-behind.ensures.1

pub rest_of_association-returns-in_err-further-clause-extends : goal.rest_of_association-returns-in_err-further-clause-extends
rest_of_association-returns-in_err-further-clause-extends t c = extends_on c.loop-children.invariant.extends c.read_choice.ensures.extends

pub rest_of_association-returns-in_err-further-clause-reads : goal.rest_of_association-returns-in_err-further-clause-reads
rest_of_association-returns-in_err-further-clause-reads t c = fails (lexemes c.args.tokens.now) c.args.cursor c.in-Some.behind _ _ _ (seen (opened c.loop-children.invariant.awaits) (present (mark marks.Bar) (lexeme c.args.tokens.now.source) (lexemes c.args.tokens.now) c.loop-children.next c.in_ok-behind.ensures c.in-Some.is).takes refl) (λ b. refl) c.in_err-further.ensures.reads c.from_residual-in_err-further.ensures.1

pub rest_of_association-loop-children-preserved : goal.rest_of_association-loop-children-preserved
rest_of_association-loop-children-preserved t c = record { below = items_below _ _ c.in_ok-push.ensures.ok c.read_choice.ensures.extends c.loop-children.invariant.below c.in_ok-further.ensures.reads.within; forward = omega (arith, c.loop-children.invariant.forward, (present (mark marks.Bar) (lexeme c.args.tokens.now.source) (lexemes c.args.tokens.now) c.loop-children.next c.in_ok-behind.ensures c.in-Some.is).place, c.in_ok-further.ensures.reads.forward); ends = c.in_ok-further.ensures.reads.ends; extends = extends_on c.loop-children.invariant.extends c.read_choice.ensures.extends; awaits = rest_as (λ (z : List Tree). parts.Choices c.args.choice.span z) (items_more _ _ c.in_ok-push.ensures.ok c.read_choice.ensures.extends c.loop-children.invariant.below) (done (seen (opened c.loop-children.invariant.awaits) (present (mark marks.Bar) (lexeme c.args.tokens.now.source) (lexemes c.args.tokens.now) c.loop-children.next c.in_ok-behind.ensures c.in-Some.is).takes refl) c.in_ok-further.ensures.reads.reads (λ b. refl)) }

pub rest_of_association-returns-in_err-next-clause-reads : goal.rest_of_association-returns-in_err-next-clause-reads
rest_of_association-returns-in_err-next-clause-reads t c = misses (lexemes c.args.tokens.now) c.args.cursor c.loop-children.next (mark marks.Arrow) _ _ _ c.loop-children.invariant.ends (unseen (opened c.loop-children.invariant.awaits) (absent (mark marks.Bar) (lexeme c.args.tokens.now.source) (lexemes c.args.tokens.now) c.loop-children.next c.in_ok-behind.ensures c.in_default.is)) refl (λ t. refl) c.in_err-next.ensures c.from_residual-in_err-next.ensures.1

pub rest_of_association-returns-in_err-value-clause-reads : goal.rest_of_association-returns-in_err-value-clause-reads
rest_of_association-returns-in_err-value-clause-reads t c = fails (lexemes c.args.tokens.now) c.args.cursor c.in_ok-next.next _ _ _ (seen (unseen (opened c.loop-children.invariant.awaits) (absent (mark marks.Bar) (lexeme c.args.tokens.now.source) (lexemes c.args.tokens.now) c.loop-children.next c.in_ok-behind.ensures c.in_default.is)) c.in_ok-next.ensures.takes refl) (λ b. refl) c.in_err-value.ensures.reads c.from_residual-in_err-value.ensures.1

pub rest_of_association-add_node-requires : goal.rest_of_association-add_node-requires
rest_of_association-add_node-requires t c = record { below = items_below _ _ c.in_ok-push-2.ensures.ok c.read_expr.ensures.extends c.loop-children.invariant.below c.in_ok-value.ensures.reads.within }

pub rest_of_association-returns-clause-extends : goal.rest_of_association-returns-clause-extends
rest_of_association-returns-clause-extends t c = extends_on (extends_on c.loop-children.invariant.extends c.read_expr.ensures.extends) c.add_node.ensures.extends

pub rest_of_association-returns-clause-reads : goal.rest_of_association-returns-clause-reads
rest_of_association-returns-clause-reads t c = record { within = c.in_ok-node.ensures.within; forward = omega (arith, c.loop-children.invariant.forward, c.in_ok-next.ensures.place, c.in_ok-value.ensures.reads.forward); ends = c.in_ok-value.ensures.reads.ends; reads = go_as Gives (over_one forms.Simple kinds.Association (trees_at (trees c.read_expr.new.exprs) c.push-2.new.self) (phrases.join c.args.choice.span c.in_ok-value.value.span) c.in_ok-node.ensures.builds refl c.join.ensures ∙ ap (λ (z : List Tree). phrases.node forms.Simple kinds.Association (phrases.join c.args.choice.span c.in_ok-value.value.span) z) (items_more _ _ c.in_ok-push-2.ensures.ok c.read_expr.ensures.extends c.loop-children.invariant.below)) (done (seen (unseen (opened c.loop-children.invariant.awaits) (absent (mark marks.Bar) (lexeme c.args.tokens.now.source) (lexemes c.args.tokens.now) c.loop-children.next c.in_ok-behind.ensures c.in_default.is)) c.in_ok-next.ensures.takes refl) c.in_ok-value.ensures.reads.reads (λ b. refl)) }

pub read_choice-returns-in_err-token-clause-reads : goal.read_choice-returns-in_err-token-clause-reads
read_choice-returns-in_err-token-clause-reads t c = passes (lexemes c.args.tokens.now) c.args.cursor c.args.cursor (word words.Others) _ _ _ (start parts.Choice _) (λ t. refl) c.in_err-token.ensures c.from_residual.ensures.1

pub read_choice-returns-in-Some-clause-reads : goal.read_choice-returns-in-Some-clause-reads
read_choice-returns-in-Some-clause-reads t c = record { within = c.in_ok-node.ensures.within; forward = omega (arith, (present (word words.Others) (lexeme c.args.tokens.now.source) (lexemes c.args.tokens.now) c.args.cursor c.in_ok-token.ensures c.in-Some.is).place); ends = (omega (arith, (present (word words.Others) (lexeme c.args.tokens.now.source) (lexemes c.args.tokens.now) c.args.cursor c.in_ok-token.ensures c.in-Some.is).place, (present (word words.Others) (lexeme c.args.tokens.now.source) (lexemes c.args.tokens.now) c.args.cursor c.in_ok-token.ensures c.in-Some.is).within)); reads = go_as Gives (over_none _ forms.Simple kinds.OthersChoice c.in-Some.token.span c.in_ok-node.ensures.builds c.new.ensures) (seen (start parts.Choice _) (present (word words.Others) (lexeme c.args.tokens.now.source) (lexemes c.args.tokens.now) c.args.cursor c.in_ok-token.ensures c.in-Some.is).takes refl) }

pub read_choice-returns-in_err-low-clause-reads : goal.read_choice-returns-in_err-low-clause-reads
read_choice-returns-in_err-low-clause-reads t c = fails (lexemes c.args.tokens.now) c.args.cursor c.args.cursor _ _ _ (unseen (start parts.Choice _) (absent (word words.Others) (lexeme c.args.tokens.now.source) (lexemes c.args.tokens.now) c.args.cursor c.in_ok-token.ensures c.in_default.is)) (λ b. refl) c.in_err-low.ensures.reads c.from_residual-in_err-low.ensures.1

pub read_choice-returns-in_err-behind-clause-reads : goal.read_choice-returns-in_err-behind-clause-reads
read_choice-returns-in_err-behind-clause-reads t c = passes (lexemes c.args.tokens.now) c.args.cursor c.in_ok-low.next (mark marks.Dots) _ _ _ (done (unseen (start parts.Choice _) (absent (word words.Others) (lexeme c.args.tokens.now.source) (lexemes c.args.tokens.now) c.args.cursor c.in_ok-token.ensures c.in_default.is)) c.in_ok-low.ensures.reads.reads (λ b. refl)) (λ t. refl) c.in_err-behind.ensures c.from_residual-in_err-behind.ensures.1

pub read_choice-returns-in_err-value-clause-extends : goal.read_choice-returns-in_err-value-clause-extends
read_choice-returns-in_err-value-clause-extends t c = extends_on (c.read_simple.ensures.extends) c.continue_expr.ensures.extends

pub read_choice-returns-in_err-value-clause-reads : goal.read_choice-returns-in_err-value-clause-reads
read_choice-returns-in_err-value-clause-reads t c = fails (lexemes c.args.tokens.now) c.args.cursor c.in_ok-low.next _ _ _ (unseen (done (unseen (start parts.Choice _) (absent (word words.Others) (lexeme c.args.tokens.now.source) (lexemes c.args.tokens.now) c.args.cursor c.in_ok-token.ensures c.in_default.is)) c.in_ok-low.ensures.reads.reads (λ b. refl)) (absent (mark marks.Dots) (lexeme c.args.tokens.now.source) (lexemes c.args.tokens.now) c.in_ok-low.next c.in_ok-behind.ensures c.in_default-2.is)) (λ b. refl) c.in_err-value.ensures.reads c.from_residual-in_err-value.ensures.1

pub read_choice-returns-in_default-2-clause-extends : goal.read_choice-returns-in_default-2-clause-extends
read_choice-returns-in_default-2-clause-extends t c = extends_on (extends_on (c.read_simple.ensures.extends) c.continue_expr.ensures.extends) c.add_one.ensures.extends

pub read_choice-returns-in_default-2-clause-reads : goal.read_choice-returns-in_default-2-clause-reads
read_choice-returns-in_default-2-clause-reads t c = record { within = c.in_ok-node-2.ensures.within; forward = omega (arith, c.in_ok-low.ensures.reads.forward, c.in_ok-value.ensures.reads.forward); ends = c.in_ok-value.ensures.reads.ends; reads = go_as Gives (over_one forms.Simple kinds.ValueChoice ((phrase (trees c.continue_expr.new.exprs) c.in_ok-value.value).tree ∷ []) c.in_ok-value.value.span c.in_ok-node-2.ensures.builds refl refl) (done (unseen (done (unseen (start parts.Choice _) (absent (word words.Others) (lexeme c.args.tokens.now.source) (lexemes c.args.tokens.now) c.args.cursor c.in_ok-token.ensures c.in_default.is)) c.in_ok-low.ensures.reads.reads (λ b. refl)) (absent (mark marks.Dots) (lexeme c.args.tokens.now.source) (lexemes c.args.tokens.now) c.in_ok-low.next c.in_ok-behind.ensures c.in_default-2.is)) c.in_ok-value.ensures.reads.reads (λ b. refl)) }

pub read_choice-returns-in_err-high-clause-extends : goal.read_choice-returns-in_err-high-clause-extends
read_choice-returns-in_err-high-clause-extends t c = extends_on (c.read_simple.ensures.extends) c.read_simple-2.ensures.extends

pub read_choice-returns-in_err-high-clause-reads : goal.read_choice-returns-in_err-high-clause-reads
read_choice-returns-in_err-high-clause-reads t c = fails (lexemes c.args.tokens.now) c.args.cursor c.in-Some-2.behind _ _ _ (seen (done (unseen (start parts.Choice _) (absent (word words.Others) (lexeme c.args.tokens.now.source) (lexemes c.args.tokens.now) c.args.cursor c.in_ok-token.ensures c.in_default.is)) c.in_ok-low.ensures.reads.reads (λ b. refl)) (present (mark marks.Dots) (lexeme c.args.tokens.now.source) (lexemes c.args.tokens.now) c.in_ok-low.next c.in_ok-behind.ensures c.in-Some-2.is).takes refl) (λ b. refl) c.in_err-high.ensures.reads c.from_residual-in_err-high.ensures.1

pub read_choice-add_two-requires-clause-a : goal.read_choice-add_two-requires-clause-a
read_choice-add_two-requires-clause-a t c = within_on c.read_simple-2.ensures.extends c.in_ok-low.ensures.reads.within

pub read_choice-returns-clause-extends : goal.read_choice-returns-clause-extends
read_choice-returns-clause-extends t c = extends_on (extends_on (c.read_simple.ensures.extends) c.read_simple-2.ensures.extends) c.add_two.ensures.extends

pub read_choice-returns-clause-reads : goal.read_choice-returns-clause-reads
read_choice-returns-clause-reads t c = record { within = c.in_ok-node-3.ensures.within; forward = omega (arith, c.in_ok-low.ensures.reads.forward, (present (mark marks.Dots) (lexeme c.args.tokens.now.source) (lexemes c.args.tokens.now) c.in_ok-low.next c.in_ok-behind.ensures c.in-Some-2.is).place, c.in_ok-high.ensures.reads.forward); ends = c.in_ok-high.ensures.reads.ends; reads = go_as Gives (over_two c.read_simple.new.exprs c.read_simple-2.new.exprs forms.Simple kinds.RangeChoice c.in_ok-low.low c.in_ok-high.high c.in_ok-node-3.ensures.builds refl c.join-span.ensures c.read_simple-2.ensures.extends c.in_ok-low.ensures.reads.within) (done (seen (done (unseen (start parts.Choice _) (absent (word words.Others) (lexeme c.args.tokens.now.source) (lexemes c.args.tokens.now) c.args.cursor c.in_ok-token.ensures c.in_default.is)) c.in_ok-low.ensures.reads.reads (λ b. refl)) (present (mark marks.Dots) (lexeme c.args.tokens.now.source) (lexemes c.args.tokens.now) c.in_ok-low.next c.in_ok-behind.ensures c.in-Some-2.is).takes refl) c.in_ok-high.ensures.reads.reads (λ b. refl)) }

pub read_suffixes-loop-name-init : goal.read_suffixes-loop-name-init
read_suffixes-loop-name-init t c = record { within = c.requires.left; forward = omega arith; ends = c.requires.at; extends = extends_same _; awaits = whole _ _ }

pub read_suffixes-returns-in_err-name-clause-extends : goal.read_suffixes-returns-in_err-name-clause-extends
read_suffixes-returns-in_err-name-clause-extends t c = extends_on c.loop-name.invariant.extends c.read_suffix.ensures.extends

pub read_suffixes-returns-in_err-name-clause-reads : goal.read_suffixes-returns-in_err-name-clause-reads
read_suffixes-returns-in_err-name-clause-reads t c = fails_last (lexemes c.args.tokens.now) c.args.cursor c.loop-name.next _ _ _ c.loop-name.invariant.awaits refl c.in_err-name.ensures.reads c.from_residual.ensures.1

pub read_suffixes-loop-name-preserved : goal.read_suffixes-loop-name-preserved
read_suffixes-loop-name-preserved t c = record { within = (suffixed c.loop-name.may_open (phrase (trees c.loop-name.exprs) c.loop-name.left) (lexemes c.args.tokens.now) c.loop-name.next (trees c.read_suffix.new.exprs) c.in_ok-name.ensures.reads c.in-Some.is).within; forward = omega (arith, c.loop-name.invariant.forward, (suffixed c.loop-name.may_open (phrase (trees c.loop-name.exprs) c.loop-name.left) (lexemes c.args.tokens.now) c.loop-name.next (trees c.read_suffix.new.exprs) c.in_ok-name.ensures.reads c.in-Some.is).forward); ends = (suffixed c.loop-name.may_open (phrase (trees c.loop-name.exprs) c.loop-name.left) (lexemes c.args.tokens.now) c.loop-name.next (trees c.read_suffix.new.exprs) c.in_ok-name.ensures.reads c.in-Some.is).ends; extends = extends_on c.loop-name.invariant.extends c.read_suffix.ensures.extends; awaits = tail c.loop-name.invariant.awaits (suffixed c.loop-name.may_open (phrase (trees c.loop-name.exprs) c.loop-name.left) (lexemes c.args.tokens.now) c.loop-name.next (trees c.read_suffix.new.exprs) c.in_ok-name.ensures.reads c.in-Some.is).awaits refl }

pub read_suffixes-returns-clause-extends : goal.read_suffixes-returns-clause-extends
read_suffixes-returns-clause-extends t c = extends_on c.loop-name.invariant.extends c.read_suffix.ensures.extends

pub read_suffixes-returns-clause-reads : goal.read_suffixes-returns-clause-reads
read_suffixes-returns-clause-reads t c = record { within = within_on c.read_suffix.ensures.extends c.loop-name.invariant.within; forward = c.loop-name.invariant.forward; ends = c.loop-name.invariant.ends; reads = go_as Gives (phrase_stays c.read_suffix.ensures.extends c.loop-name.left c.loop-name.invariant.within) (tail c.loop-name.invariant.awaits (unsuffixed c.loop-name.may_open (phrase (trees c.loop-name.exprs) c.loop-name.left) (lexemes c.args.tokens.now) c.loop-name.next (trees c.read_suffix.new.exprs) c.in_ok-name.ensures.reads c.in_default.is) refl) }

pub read_suffix-returns-in_err-next-clause-reads : goal.read_suffix-returns-in_err-next-clause-reads
read_suffix-returns-in_err-next-clause-reads t c = suffix_not c.args.may_open (phrase (trees c.args.exprs.now) c.args.left) (lexemes c.args.tokens.now) c.args.cursor _ _ _ (passes_here (lexemes c.args.tokens.now) c.args.cursor c.args.cursor (mark marks.Dot) _ (start (parts.Suffixes c.args.may_open (phrase (trees c.args.exprs.now) c.args.left)) _) (λ t. refl) c.in_err-next.ensures) c.from_residual.ensures.1

pub read_suffix-returns-in_err-token-clause-reads : goal.read_suffix-returns-in_err-token-clause-reads
read_suffix-returns-in_err-token-clause-reads t c = suffix_not c.args.may_open (phrase (trees c.args.exprs.now) c.args.left) (lexemes c.args.tokens.now) c.args.cursor _ _ _ (misses_here (lexemes c.args.tokens.now) c.args.cursor c.in-Some.next classes.Word _ (omega (arith, (present (mark marks.Dot) (lexeme c.args.tokens.now.source) (lexemes c.args.tokens.now) c.args.cursor c.in_ok-next.ensures c.in-Some.is).place, (present (mark marks.Dot) (lexeme c.args.tokens.now.source) (lexemes c.args.tokens.now) c.args.cursor c.in_ok-next.ensures c.in-Some.is).within)) (dotted c.args.may_open (phrase (trees c.args.exprs.now) c.args.left) (present (mark marks.Dot) (lexeme c.args.tokens.now.source) (lexemes c.args.tokens.now) c.args.cursor c.in_ok-next.ensures c.in-Some.is).takes) refl (λ t. refl) c.in_err-token.ensures) c.from_residual-in_err-token.ensures.1

pub read_suffix-returns-in-Some-clause-reads : goal.read_suffix-returns-in-Some-clause-reads
read_suffix-returns-in-Some-clause-reads t c = record { within = c.in_ok-node.ensures.within; forward = omega (arith, (present (mark marks.Dot) (lexeme c.args.tokens.now.source) (lexemes c.args.tokens.now) c.args.cursor c.in_ok-next.ensures c.in-Some.is).place, c.in_ok-token.ensures.place); ends = omega (arith, c.in_ok-token.ensures.place, c.in_ok-token.ensures.within); awaits = go_as (λ z. Rest (parts.Suffixes true z)) c.in_ok-node.ensures.builds (seen (dotted c.args.may_open (phrase (trees c.args.exprs.now) c.args.left) (present (mark marks.Dot) (lexeme c.args.tokens.now.source) (lexemes c.args.tokens.now) c.args.cursor c.in_ok-next.ensures c.in-Some.is).takes) c.in_ok-token.ensures.takes refl) }

pub read_suffix-returns-in_err-next-2-clause-reads : goal.read_suffix-returns-in_err-next-2-clause-reads
read_suffix-returns-in_err-next-2-clause-reads t c = suffix_not c.args.may_open (phrase (trees c.args.exprs.now) c.args.left) (lexemes c.args.tokens.now) c.args.cursor _ _ _ (passes_here (lexemes c.args.tokens.now) c.args.cursor c.args.cursor (mark marks.Tick) _ (unseen (start (parts.Suffixes c.args.may_open (phrase (trees c.args.exprs.now) c.args.left)) _) (absent (mark marks.Dot) (lexeme c.args.tokens.now.source) (lexemes c.args.tokens.now) c.args.cursor c.in_ok-next.ensures c.in_default.is)) (λ t. refl) c.in_err-next-2.ensures) c.from_residual-in_err-next-2.ensures.1

pub read_suffix-returns-in_err-suffixed-clause-reads : goal.read_suffix-returns-in_err-suffixed-clause-reads
read_suffix-returns-in_err-suffixed-clause-reads t c = suffix_not c.args.may_open (phrase (trees c.args.exprs.now) c.args.left) (lexemes c.args.tokens.now) c.args.cursor _ _ _ (refuses_last (lexemes c.args.tokens.now) c.args.cursor c.in-Some-2.next _ (ticked c.args.may_open (phrase (trees c.args.exprs.now) c.args.left) (absent (mark marks.Dot) (lexeme c.args.tokens.now.source) (lexemes c.args.tokens.now) c.args.cursor c.in_ok-next.ensures c.in_default.is) (present (mark marks.Tick) (lexeme c.args.tokens.now.source) (lexemes c.args.tokens.now) c.args.cursor c.in_ok-next-2.ensures c.in-Some-2.is).takes) refl c.in_err-suffixed.ensures.reads) c.from_residual-in_err-suffixed.ensures.1

pub read_suffix-returns-in-Some-2-clause-reads : goal.read_suffix-returns-in-Some-2-clause-reads
read_suffix-returns-in-Some-2-clause-reads t c = by_tick c.args.may_open (phrase (trees c.args.exprs.now) c.args.left) (lexemes c.args.tokens.now) c.args.cursor c.in-Some-2.next _ _ (ticked c.args.may_open (phrase (trees c.args.exprs.now) c.args.left) (absent (mark marks.Dot) (lexeme c.args.tokens.now.source) (lexemes c.args.tokens.now) c.args.cursor c.in_ok-next.ensures c.in_default.is) (present (mark marks.Tick) (lexeme c.args.tokens.now.source) (lexemes c.args.tokens.now) c.args.cursor c.in_ok-next-2.ensures c.in-Some-2.is).takes) (omega (arith, (present (mark marks.Tick) (lexeme c.args.tokens.now.source) (lexemes c.args.tokens.now) c.args.cursor c.in_ok-next-2.ensures c.in-Some-2.is).place)) c.in_ok-suffixed.ensures.reads

pub read_suffix-returns-then-not-may_open-clause-reads : goal.read_suffix-returns-then-not-may_open-clause-reads
read_suffix-returns-then-not-may_open-clause-reads t c = ends c.args.may_open (phrase (trees c.args.exprs.now) c.args.left) c.if-not-may_open.true (untied c.args.may_open (phrase (trees c.args.exprs.now) c.args.left) (absent (mark marks.Dot) (lexeme c.args.tokens.now.source) (lexemes c.args.tokens.now) c.args.cursor c.in_ok-next.ensures c.in_default.is) (absent (mark marks.Tick) (lexeme c.args.tokens.now.source) (lexemes c.args.tokens.now) c.args.cursor c.in_ok-next-2.ensures c.in_default-2.is))

pub read_suffix-returns-in_err-next-3-clause-reads : goal.read_suffix-returns-in_err-next-3-clause-reads
read_suffix-returns-in_err-next-3-clause-reads t c = suffix_not c.args.may_open (phrase (trees c.args.exprs.now) c.args.left) (lexemes c.args.tokens.now) c.args.cursor _ _ _ (passes_here (lexemes c.args.tokens.now) c.args.cursor c.args.cursor (mark marks.Open) _ (may_open c.args.may_open (phrase (trees c.args.exprs.now) c.args.left) c.if-not-may_open.false (untied c.args.may_open (phrase (trees c.args.exprs.now) c.args.left) (absent (mark marks.Dot) (lexeme c.args.tokens.now.source) (lexemes c.args.tokens.now) c.args.cursor c.in_ok-next.ensures c.in_default.is) (absent (mark marks.Tick) (lexeme c.args.tokens.now.source) (lexemes c.args.tokens.now) c.args.cursor c.in_ok-next-2.ensures c.in_default-2.is))) (λ t. refl) c.in_err-next-3.ensures) c.from_residual-in_err-next-3.ensures.1

pub read_suffix-returns-in_default-3-clause-reads : goal.read_suffix-returns-in_default-3-clause-reads
read_suffix-returns-in_default-3-clause-reads t c = unseen (may_open c.args.may_open (phrase (trees c.args.exprs.now) c.args.left) c.if-not-may_open.false (untied c.args.may_open (phrase (trees c.args.exprs.now) c.args.left) (absent (mark marks.Dot) (lexeme c.args.tokens.now.source) (lexemes c.args.tokens.now) c.args.cursor c.in_ok-next.ensures c.in_default.is) (absent (mark marks.Tick) (lexeme c.args.tokens.now.source) (lexemes c.args.tokens.now) c.args.cursor c.in_ok-next-2.ensures c.in_default-2.is))) (absent (mark marks.Open) (lexeme c.args.tokens.now.source) (lexemes c.args.tokens.now) c.args.cursor c.in_ok-next-3.ensures c.in_default-3.is)

pub read_suffix-returns-in_err-node-2-clause-reads : goal.read_suffix-returns-in_err-node-2-clause-reads
read_suffix-returns-in_err-node-2-clause-reads t c = suffix_not c.args.may_open (phrase (trees c.args.exprs.now) c.args.left) (lexemes c.args.tokens.now) c.args.cursor _ _ _ (refuses (lexemes c.args.tokens.now) c.args.cursor c.in-Some-3.next _ (seen (may_open c.args.may_open (phrase (trees c.args.exprs.now) c.args.left) c.if-not-may_open.false (untied c.args.may_open (phrase (trees c.args.exprs.now) c.args.left) (absent (mark marks.Dot) (lexeme c.args.tokens.now.source) (lexemes c.args.tokens.now) c.args.cursor c.in_ok-next.ensures c.in_default.is) (absent (mark marks.Tick) (lexeme c.args.tokens.now.source) (lexemes c.args.tokens.now) c.args.cursor c.in_ok-next-2.ensures c.in_default-2.is))) (present (mark marks.Open) (lexeme c.args.tokens.now.source) (lexemes c.args.tokens.now) c.args.cursor c.in_ok-next-3.ensures c.in-Some-3.is).takes refl) (λ b. refl) c.in_err-node-2.ensures.reads) c.from_residual-in_err-node-2.ensures.1

pub read_suffix-returns-clause-reads : goal.read_suffix-returns-clause-reads
read_suffix-returns-clause-reads t c = record { within = c.in_ok-node-2.ensures.reads.within; forward = omega (arith, (present (mark marks.Open) (lexeme c.args.tokens.now.source) (lexemes c.args.tokens.now) c.args.cursor c.in_ok-next-3.ensures c.in-Some-3.is).place, c.in_ok-node-2.ensures.reads.forward); ends = c.in_ok-node-2.ensures.reads.ends; awaits = done (seen (may_open c.args.may_open (phrase (trees c.args.exprs.now) c.args.left) c.if-not-may_open.false (untied c.args.may_open (phrase (trees c.args.exprs.now) c.args.left) (absent (mark marks.Dot) (lexeme c.args.tokens.now.source) (lexemes c.args.tokens.now) c.args.cursor c.in_ok-next.ensures c.in_default.is) (absent (mark marks.Tick) (lexeme c.args.tokens.now.source) (lexemes c.args.tokens.now) c.args.cursor c.in_ok-next-2.ensures c.in_default-2.is))) (present (mark marks.Open) (lexeme c.args.tokens.now.source) (lexemes c.args.tokens.now) c.args.cursor c.in_ok-next-3.ensures c.in-Some-3.is).takes refl) c.in_ok-node-2.ensures.reads.reads (λ b. refl) }

pub behind_tick-returns-in_err-name-clause-reads : goal.behind_tick-returns-in_err-name-clause-reads
behind_tick-returns-in_err-name-clause-reads t c = tick_not (parts.BehindTick (phrase (trees c.args.exprs.now) c.args.left)) (lexemes c.args.tokens.now) c.args.cursor _ _ _ (passes_here (lexemes c.args.tokens.now) c.args.cursor c.args.cursor classes.AttributeName _ (start (parts.BehindTick _) _) (λ t. refl) c.in_err-name.ensures) c.from_residual.ensures.1

pub behind_tick-returns-in_err-opening-clause-reads : goal.behind_tick-returns-in_err-opening-clause-reads
behind_tick-returns-in_err-opening-clause-reads t c = tick_not (parts.BehindTick (phrase (trees c.args.exprs.now) c.args.left)) (lexemes c.args.tokens.now) c.args.cursor _ _ _ (misses_here (lexemes c.args.tokens.now) c.args.cursor c.args.cursor (mark marks.Open) _ c.requires.at (unseen (start (parts.BehindTick _) _) (absent classes.AttributeName (lexeme c.args.tokens.now.source) (lexemes c.args.tokens.now) c.args.cursor c.in_ok-name.ensures c.in_default.is)) refl (λ t. refl) c.in_err-opening.ensures) c.from_residual-in_err-opening.ensures.1

pub behind_tick-returns-in_err-inner-clause-reads : goal.behind_tick-returns-in_err-inner-clause-reads
behind_tick-returns-in_err-inner-clause-reads t c = tick_not (parts.BehindTick (phrase (trees c.args.exprs.now) c.args.left)) (lexemes c.args.tokens.now) c.args.cursor _ _ _ (refuses (lexemes c.args.tokens.now) c.args.cursor c.in_ok-opening.next _ (seen (unseen (start (parts.BehindTick _) _) (absent classes.AttributeName (lexeme c.args.tokens.now.source) (lexemes c.args.tokens.now) c.args.cursor c.in_ok-name.ensures c.in_default.is)) c.in_ok-opening.ensures.takes refl) (λ b. refl) c.in_err-inner.ensures.reads) c.from_residual-in_err-inner.ensures.1

pub behind_tick-add_two-requires-clause-a : goal.behind_tick-add_two-requires-clause-a
behind_tick-add_two-requires-clause-a t c = within_on c.read_in_parens.ensures.extends c.requires.left

pub behind_tick-returns-in_err-node-clause-extends : goal.behind_tick-returns-in_err-node-clause-extends
behind_tick-returns-in_err-node-clause-extends t c = extends_on (c.read_in_parens.ensures.extends) c.add_two.ensures.extends

pub behind_tick-returns-in_default-clause-extends : goal.behind_tick-returns-in_default-clause-extends
behind_tick-returns-in_default-clause-extends t c = extends_on (c.read_in_parens.ensures.extends) c.add_two.ensures.extends

pub behind_tick-returns-in_default-clause-reads : goal.behind_tick-returns-in_default-clause-reads
behind_tick-returns-in_default-clause-reads t c = record { within = c.in_ok-node.ensures.within; forward = omega (arith, c.in_ok-opening.ensures.place, c.in_ok-inner.ensures.reads.forward); ends = c.in_ok-inner.ensures.reads.ends; awaits = go_as (λ z. Rest (parts.Suffixes true z)) (over_two c.args.exprs.now c.read_in_parens.new.exprs forms.Simple kinds.Qualified c.args.left c.in_ok-inner.inner c.in_ok-node.ensures.builds refl c.join-span.ensures c.read_in_parens.ensures.extends c.requires.left) (done (seen (unseen (start (parts.BehindTick _) _) (absent classes.AttributeName (lexeme c.args.tokens.now.source) (lexemes c.args.tokens.now) c.args.cursor c.in_ok-name.ensures c.in_default.is)) c.in_ok-opening.ensures.takes refl) c.in_ok-inner.ensures.reads.reads (λ b. refl)) }

pub behind_tick-returns-in_err-next-clause-reads : goal.behind_tick-returns-in_err-next-clause-reads
behind_tick-returns-in_err-next-clause-reads t c = tick_not (parts.BehindTick (phrase (trees c.args.exprs.now) c.args.left)) (lexemes c.args.tokens.now) c.args.cursor _ _ _ (passes_here (lexemes c.args.tokens.now) c.args.cursor c.in-Some.next (mark marks.Open) _ (opened (seen (start (parts.BehindTick _) _) (present classes.AttributeName (lexeme c.args.tokens.now.source) (lexemes c.args.tokens.now) c.args.cursor c.in_ok-name.ensures c.in-Some.is).takes refl)) (λ t. refl) c.in_err-next.ensures) c.from_residual-in_err-next.ensures.1

pub behind_tick-returns-in_err-node-2-clause-reads : goal.behind_tick-returns-in_err-node-2-clause-reads
behind_tick-returns-in_err-node-2-clause-reads t c = tick_not (parts.BehindTick (phrase (trees c.args.exprs.now) c.args.left)) (lexemes c.args.tokens.now) c.args.cursor _ _ _ (refuses (lexemes c.args.tokens.now) c.args.cursor c.in-Some-2.next _ (seen (opened (seen (start (parts.BehindTick _) _) (present classes.AttributeName (lexeme c.args.tokens.now.source) (lexemes c.args.tokens.now) c.args.cursor c.in_ok-name.ensures c.in-Some.is).takes refl)) (present (mark marks.Open) (lexeme c.args.tokens.now.source) (lexemes c.args.tokens.now) c.in-Some.next c.in_ok-next.ensures c.in-Some-2.is).takes refl) (λ b. refl) c.in_err-node-2.ensures.reads) c.from_residual-in_err-node-2.ensures.1

pub behind_tick-returns-in-Some-2-clause-reads : goal.behind_tick-returns-in-Some-2-clause-reads
behind_tick-returns-in-Some-2-clause-reads t c = record { within = c.in_ok-node-2.ensures.reads.within; forward = omega (arith, (present classes.AttributeName (lexeme c.args.tokens.now.source) (lexemes c.args.tokens.now) c.args.cursor c.in_ok-name.ensures c.in-Some.is).place, (present (mark marks.Open) (lexeme c.args.tokens.now.source) (lexemes c.args.tokens.now) c.in-Some.next c.in_ok-next.ensures c.in-Some-2.is).place, c.in_ok-node-2.ensures.reads.forward); ends = c.in_ok-node-2.ensures.reads.ends; awaits = done (seen (opened (seen (start (parts.BehindTick _) _) (present classes.AttributeName (lexeme c.args.tokens.now.source) (lexemes c.args.tokens.now) c.args.cursor c.in_ok-name.ensures c.in-Some.is).takes refl)) (present (mark marks.Open) (lexeme c.args.tokens.now.source) (lexemes c.args.tokens.now) c.in-Some.next c.in_ok-next.ensures c.in-Some-2.is).takes refl) c.in_ok-node-2.ensures.reads.reads (λ b. refl) }

pub behind_tick-returns-clause-reads : goal.behind_tick-returns-clause-reads
behind_tick-returns-clause-reads t c = record { within = c.in_ok-node-3.ensures.within; forward = omega (arith, (present classes.AttributeName (lexeme c.args.tokens.now.source) (lexemes c.args.tokens.now) c.args.cursor c.in_ok-name.ensures c.in-Some.is).place); ends = omega (arith, (present classes.AttributeName (lexeme c.args.tokens.now.source) (lexemes c.args.tokens.now) c.args.cursor c.in_ok-name.ensures c.in-Some.is).place, (present classes.AttributeName (lexeme c.args.tokens.now.source) (lexemes c.args.tokens.now) c.args.cursor c.in_ok-name.ensures c.in-Some.is).within); awaits = go_as (λ z. Rest (parts.Suffixes false z)) c.in_ok-node-3.ensures.builds (unseen (opened (seen (start (parts.BehindTick _) _) (present classes.AttributeName (lexeme c.args.tokens.now.source) (lexemes c.args.tokens.now) c.args.cursor c.in_ok-name.ensures c.in-Some.is).takes refl)) (absent (mark marks.Open) (lexeme c.args.tokens.now.source) (lexemes c.args.tokens.now) c.in-Some.next c.in_ok-next.ensures c.in_default-2.is)) }

pub read_values-returns-in_err-first-clause-reads : goal.read_values-returns-in_err-first-clause-reads
read_values-returns-in_err-first-clause-reads t c = fails (lexemes c.args.tokens.now) c.args.cursor c.args.cursor _ _ _ (start (parts.ValuesFrom _ _) _) (λ b. refl) c.in_err-first.ensures.reads c.from_residual.ensures.1

pub read_values-loop-children-init : goal.read_values-loop-children-init
read_values-loop-children-init t c = record { below = below_two _ _ c.in_ok-children.ensures (within_on c.read_expr.ensures.extends c.requires.left) c.in_ok-first.ensures.reads.within; forward = c.in_ok-first.ensures.reads.forward; ends = c.in_ok-first.ensures.reads.ends; extends = c.read_expr.ensures.extends; awaits = rest_as (λ (z : List Tree). parts.Values c.args.left.span (lexeme c.args.tokens.now.source c.args.name) z) (trees_two _ _ _ c.in_ok-children.ensures ∙ stays_first c.read_expr.ensures.extends c.requires.left) (done (start (parts.ValuesFrom _ _) _) c.in_ok-first.ensures.reads.reads (λ b. refl)) }

pub read_values-returns-in_err-behind-clause-extends : goal.read_values-returns-in_err-behind-clause-extends
read_values-returns-in_err-behind-clause-extends t c = c.loop-children.invariant.extends

pub read_values-returns-in_err-behind-clause-reads : goal.read_values-returns-in_err-behind-clause-reads
read_values-returns-in_err-behind-clause-reads t c = passes (lexemes c.args.tokens.now) c.args.cursor c.loop-children.next (mark marks.Comma) _ _ _ (opened c.loop-children.invariant.awaits) (λ t. refl) c.in_err-behind.ensures c.from_residual-in_err-behind.ensures.1

pub read_values-returns-in_err-value-clause-extends : goal.read_values-returns-in_err-value-clause-extends
read_values-returns-in_err-value-clause-extends t c = extends_on c.loop-children.invariant.extends c.read_expr-in-Some.ensures.extends

pub read_values-returns-in_err-value-clause-reads : goal.read_values-returns-in_err-value-clause-reads
read_values-returns-in_err-value-clause-reads t c = fails (lexemes c.args.tokens.now) c.args.cursor c.in-Some.behind _ _ _ (seen (opened c.loop-children.invariant.awaits) (present (mark marks.Comma) (lexeme c.args.tokens.now.source) (lexemes c.args.tokens.now) c.loop-children.next c.in_ok-behind.ensures c.in-Some.is).takes refl) (λ b. refl) c.in_err-value.ensures.reads c.from_residual-in_err-value.ensures.1

pub read_values-loop-children-preserved : goal.read_values-loop-children-preserved
read_values-loop-children-preserved t c = record { below = items_below _ _ c.in_ok-push.ensures.ok c.read_expr-in-Some.ensures.extends c.loop-children.invariant.below c.in_ok-value.ensures.reads.within; forward = omega (arith, c.loop-children.invariant.forward, (present (mark marks.Comma) (lexeme c.args.tokens.now.source) (lexemes c.args.tokens.now) c.loop-children.next c.in_ok-behind.ensures c.in-Some.is).place, c.in_ok-value.ensures.reads.forward); ends = c.in_ok-value.ensures.reads.ends; extends = extends_on c.loop-children.invariant.extends c.read_expr-in-Some.ensures.extends; awaits = rest_as (λ (z : List Tree). parts.Values c.args.left.span (lexeme c.args.tokens.now.source c.args.name) z) (items_more _ _ c.in_ok-push.ensures.ok c.read_expr-in-Some.ensures.extends c.loop-children.invariant.below) (done (seen (opened c.loop-children.invariant.awaits) (present (mark marks.Comma) (lexeme c.args.tokens.now.source) (lexemes c.args.tokens.now) c.loop-children.next c.in_ok-behind.ensures c.in-Some.is).takes refl) c.in_ok-value.ensures.reads.reads (λ b. refl)) }

pub read_values-returns-in_err-closing-clause-extends : goal.read_values-returns-in_err-closing-clause-extends
read_values-returns-in_err-closing-clause-extends t c = c.loop-children.invariant.extends

pub read_values-returns-in_err-closing-clause-reads : goal.read_values-returns-in_err-closing-clause-reads
read_values-returns-in_err-closing-clause-reads t c = misses (lexemes c.args.tokens.now) c.args.cursor c.loop-children.next (mark marks.Close) _ _ _ c.loop-children.invariant.ends (unseen (opened c.loop-children.invariant.awaits) (absent (mark marks.Comma) (lexeme c.args.tokens.now.source) (lexemes c.args.tokens.now) c.loop-children.next c.in_ok-behind.ensures c.in_default.is)) refl (λ t. refl) c.in_err-closing.ensures c.from_residual-in_err-closing.ensures.1

pub read_values-returns-clause-extends : goal.read_values-returns-clause-extends
read_values-returns-clause-extends t c = extends_on c.loop-children.invariant.extends c.add_attribute_of.ensures.extends

pub read_values-returns-clause-reads : goal.read_values-returns-clause-reads
read_values-returns-clause-reads t c = record { within = c.in_ok-node.ensures.within; forward = omega (arith, c.loop-children.invariant.forward, c.in_ok-closing.ensures.place); ends = omega (arith, c.in_ok-closing.ensures.place, c.in_ok-closing.ensures.within); reads = go_as Gives (c.in_ok-node.ensures.builds) (seen (unseen (opened c.loop-children.invariant.awaits) (absent (mark marks.Comma) (lexeme c.args.tokens.now.source) (lexemes c.args.tokens.now) c.loop-children.next c.in_ok-behind.ensures c.in_default.is)) c.in_ok-closing.ensures.takes refl) }

pub read_arguments-returns-in_err-first-clause-reads : goal.read_arguments-returns-in_err-first-clause-reads
read_arguments-returns-in_err-first-clause-reads t c = fails (lexemes c.args.tokens.now) c.args.cursor c.args.cursor _ _ _ (start (parts.ArgumentsFrom _) _) (λ b. refl) c.in_err-first.ensures.reads c.from_residual.ensures.1

pub read_arguments-loop-children-init : goal.read_arguments-loop-children-init
read_arguments-loop-children-init t c = record { below = below_two _ _ c.in_ok-children.ensures (within_on c.read_argument.ensures.extends c.requires.left) c.in_ok-first.ensures.reads.within; forward = c.in_ok-first.ensures.reads.forward; ends = c.in_ok-first.ensures.reads.ends; extends = c.read_argument.ensures.extends; awaits = rest_as (λ (z : List Tree). parts.Arguments c.args.left.span z) (trees_two _ _ _ c.in_ok-children.ensures ∙ stays_first c.read_argument.ensures.extends c.requires.left) (done (start (parts.ArgumentsFrom _) _) c.in_ok-first.ensures.reads.reads (λ b. refl)) }

pub read_arguments-returns-in_err-behind-clause-extends : goal.read_arguments-returns-in_err-behind-clause-extends
read_arguments-returns-in_err-behind-clause-extends t c = c.loop-children.invariant.extends

pub read_arguments-returns-in_err-behind-clause-reads : goal.read_arguments-returns-in_err-behind-clause-reads
read_arguments-returns-in_err-behind-clause-reads t c = passes (lexemes c.args.tokens.now) c.args.cursor c.loop-children.next (mark marks.Comma) _ _ _ (opened c.loop-children.invariant.awaits) (λ t. refl) c.in_err-behind.ensures c.from_residual-in_err-behind.ensures.1

pub read_arguments-returns-in_err-argument-clause-extends : goal.read_arguments-returns-in_err-argument-clause-extends
read_arguments-returns-in_err-argument-clause-extends t c = extends_on c.loop-children.invariant.extends c.read_argument-in-Some.ensures.extends

pub read_arguments-returns-in_err-argument-clause-reads : goal.read_arguments-returns-in_err-argument-clause-reads
read_arguments-returns-in_err-argument-clause-reads t c = fails (lexemes c.args.tokens.now) c.args.cursor c.in-Some.behind _ _ _ (seen (opened c.loop-children.invariant.awaits) (present (mark marks.Comma) (lexeme c.args.tokens.now.source) (lexemes c.args.tokens.now) c.loop-children.next c.in_ok-behind.ensures c.in-Some.is).takes refl) (λ b. refl) c.in_err-argument.ensures.reads c.from_residual-in_err-argument.ensures.1

pub read_arguments-loop-children-preserved : goal.read_arguments-loop-children-preserved
read_arguments-loop-children-preserved t c = record { below = items_below _ _ c.in_ok-push.ensures.ok c.read_argument-in-Some.ensures.extends c.loop-children.invariant.below c.in_ok-argument.ensures.reads.within; forward = omega (arith, c.loop-children.invariant.forward, (present (mark marks.Comma) (lexeme c.args.tokens.now.source) (lexemes c.args.tokens.now) c.loop-children.next c.in_ok-behind.ensures c.in-Some.is).place, c.in_ok-argument.ensures.reads.forward); ends = c.in_ok-argument.ensures.reads.ends; extends = extends_on c.loop-children.invariant.extends c.read_argument-in-Some.ensures.extends; awaits = rest_as (λ (z : List Tree). parts.Arguments c.args.left.span z) (items_more _ _ c.in_ok-push.ensures.ok c.read_argument-in-Some.ensures.extends c.loop-children.invariant.below) (done (seen (opened c.loop-children.invariant.awaits) (present (mark marks.Comma) (lexeme c.args.tokens.now.source) (lexemes c.args.tokens.now) c.loop-children.next c.in_ok-behind.ensures c.in-Some.is).takes refl) c.in_ok-argument.ensures.reads.reads (λ b. refl)) }

pub read_arguments-returns-in_err-closing-clause-extends : goal.read_arguments-returns-in_err-closing-clause-extends
read_arguments-returns-in_err-closing-clause-extends t c = c.loop-children.invariant.extends

pub read_arguments-returns-in_err-closing-clause-reads : goal.read_arguments-returns-in_err-closing-clause-reads
read_arguments-returns-in_err-closing-clause-reads t c = misses (lexemes c.args.tokens.now) c.args.cursor c.loop-children.next (mark marks.Close) _ _ _ c.loop-children.invariant.ends (unseen (opened c.loop-children.invariant.awaits) (absent (mark marks.Comma) (lexeme c.args.tokens.now.source) (lexemes c.args.tokens.now) c.loop-children.next c.in_ok-behind.ensures c.in_default.is)) refl (λ t. refl) c.in_err-closing.ensures c.from_residual-in_err-closing.ensures.1

pub read_arguments-returns-clause-extends : goal.read_arguments-returns-clause-extends
read_arguments-returns-clause-extends t c = extends_on c.loop-children.invariant.extends c.add_node.ensures.extends

pub read_arguments-returns-clause-reads : goal.read_arguments-returns-clause-reads
read_arguments-returns-clause-reads t c = record { within = c.in_ok-node.ensures.within; forward = omega (arith, c.loop-children.invariant.forward, c.in_ok-closing.ensures.place); ends = omega (arith, c.in_ok-closing.ensures.place, c.in_ok-closing.ensures.within); reads = go_as Gives (over_one forms.Simple kinds.Applied (trees_at (trees c.loop-children.exprs) c.loop-children.children) (phrases.join c.args.left.span c.in_ok-closing.closing.span) c.in_ok-node.ensures.builds refl c.join.ensures) (seen (unseen (opened c.loop-children.invariant.awaits) (absent (mark marks.Comma) (lexeme c.args.tokens.now.source) (lexemes c.args.tokens.now) c.loop-children.next c.in_ok-behind.ensures c.in_default.is)) c.in_ok-closing.ensures.takes refl) }

pub read_argument-returns-in_err-first-clause-reads : goal.read_argument-returns-in_err-first-clause-reads
read_argument-returns-in_err-first-clause-reads t c = fails (lexemes c.args.tokens.now) c.args.cursor c.args.cursor _ _ _ (start parts.Argument _) (λ b. refl) c.in_err-first.ensures.reads c.from_residual.ensures.1

pub read_argument-returns-then-not-is_identifier-clause-extends : goal.read_argument-returns-then-not-is_identifier-clause-extends
read_argument-returns-then-not-is_identifier-clause-extends t c = extends_on (c.read_expr.ensures.extends) c.add_one.ensures.extends

pub read_argument-returns-then-not-is_identifier-clause-reads : goal.read_argument-returns-then-not-is_identifier-clause-reads
read_argument-returns-then-not-is_identifier-clause-reads t c = record { within = c.in_ok-node.ensures.within; forward = omega (arith, c.in_ok-first.ensures.reads.forward); ends = c.in_ok-first.ensures.reads.ends; reads = go_as Gives (over_one forms.Simple (kinds.Argument false) ((phrase (trees c.read_expr.new.exprs) c.in_ok-first.first).tree ∷ []) c.in_ok-first.first.span c.in_ok-node.ensures.builds refl refl) (declined (done (start parts.Argument _) c.in_ok-first.ensures.reads.reads (λ b. refl)) (sym c.if-not-is_identifier.ensures)) }

pub read_argument-returns-in_err-behind-clause-reads : goal.read_argument-returns-in_err-behind-clause-reads
read_argument-returns-in_err-behind-clause-reads t c = passes (lexemes c.args.tokens.now) c.args.cursor c.in_ok-first.next (mark marks.Arrow) _ _ _ (decided (done (start parts.Argument _) c.in_ok-first.ensures.reads.reads (λ b. refl)) (sym c.if-not-is_identifier.ensures)) (λ t. refl) c.in_err-behind.ensures c.from_residual-in_err-behind.ensures.1

pub read_argument-returns-in_default-clause-extends : goal.read_argument-returns-in_default-clause-extends
read_argument-returns-in_default-clause-extends t c = extends_on (c.read_expr.ensures.extends) c.add_one-in_default.ensures.extends

pub read_argument-returns-in_default-clause-reads : goal.read_argument-returns-in_default-clause-reads
read_argument-returns-in_default-clause-reads t c = record { within = c.in_ok-node-2.ensures.within; forward = omega (arith, c.in_ok-first.ensures.reads.forward); ends = c.in_ok-first.ensures.reads.ends; reads = go_as Gives (over_one forms.Simple (kinds.Argument false) ((phrase (trees c.read_expr.new.exprs) c.in_ok-first.first).tree ∷ []) c.in_ok-first.first.span c.in_ok-node-2.ensures.builds refl refl) (unseen (decided (done (start parts.Argument _) c.in_ok-first.ensures.reads.reads (λ b. refl)) (sym c.if-not-is_identifier.ensures)) (absent (mark marks.Arrow) (lexeme c.args.tokens.now.source) (lexemes c.args.tokens.now) c.in_ok-first.next c.in_ok-behind.ensures c.in_default.is)) }

pub read_argument-returns-in_err-value-clause-reads : goal.read_argument-returns-in_err-value-clause-reads
read_argument-returns-in_err-value-clause-reads t c = fails (lexemes c.args.tokens.now) c.args.cursor c.in-Some.behind _ _ _ (seen (decided (done (start parts.Argument _) c.in_ok-first.ensures.reads.reads (λ b. refl)) (sym c.if-not-is_identifier.ensures)) (present (mark marks.Arrow) (lexeme c.args.tokens.now.source) (lexemes c.args.tokens.now) c.in_ok-first.next c.in_ok-behind.ensures c.in-Some.is).takes refl) (λ b. refl) c.in_err-value.ensures.reads c.from_residual-in_err-value.ensures.1

pub read_argument-add_two-requires-clause-a : goal.read_argument-add_two-requires-clause-a
read_argument-add_two-requires-clause-a t c = within_on c.read_expr-2.ensures.extends c.in_ok-first.ensures.reads.within

pub read_argument-returns-clause-extends : goal.read_argument-returns-clause-extends
read_argument-returns-clause-extends t c = extends_on (extends_on (c.read_expr.ensures.extends) c.read_expr-2.ensures.extends) c.add_two.ensures.extends

pub read_argument-returns-clause-reads : goal.read_argument-returns-clause-reads
read_argument-returns-clause-reads t c = record { within = c.in_ok-node-3.ensures.within; forward = omega (arith, c.in_ok-first.ensures.reads.forward, (present (mark marks.Arrow) (lexeme c.args.tokens.now.source) (lexemes c.args.tokens.now) c.in_ok-first.next c.in_ok-behind.ensures c.in-Some.is).place, c.in_ok-value.ensures.reads.forward); ends = c.in_ok-value.ensures.reads.ends; reads = go_as Gives (over_two c.read_expr.new.exprs c.read_expr-2.new.exprs forms.Simple (kinds.Argument true) c.in_ok-first.first c.in_ok-value.value c.in_ok-node-3.ensures.builds refl c.join.ensures c.read_expr-2.ensures.extends c.in_ok-first.ensures.reads.within) (done (seen (decided (done (start parts.Argument _) c.in_ok-first.ensures.reads.reads (λ b. refl)) (sym c.if-not-is_identifier.ensures)) (present (mark marks.Arrow) (lexeme c.args.tokens.now.source) (lexemes c.args.tokens.now) c.in_ok-first.next c.in_ok-behind.ensures c.in-Some.is).takes refl) c.in_ok-value.ensures.reads.reads (λ b. refl)) }
