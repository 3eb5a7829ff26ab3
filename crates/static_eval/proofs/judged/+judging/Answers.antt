use Rattle.std.proofs.Common.{◌∙◌, ap, arith}
use Rattle.ada_forms.specs.Forms.{expr_of, form_tree}
use Rattle.static_eval.proofs.Overs.{over_binary, over_constrained, over_range, result_as}
use Rattle.static_eval.specs.Judged.{reversed}
use Rattle.static_eval.specs.Known.{known_meaning}
use Rattle.static_eval.proofs.Spines.{popped_low, said_at, said_pop}
use Rattle.static_eval.proofs.judged.+judging.Goals as goal

pub judge-judge_over-requires-in-Some : goal.judge-judge_over-requires-in-Some
judge-judge_over-requires-in-Some t c =
    let low = popped_low c.args.e c.in-Some.next c.pop.new.self.items c.loop-next.descent.above.items c.in-Some.ensures.items c.loop-next.invariant.above in
    let way = said_pop (known_meaning c.args.units.now c.args.known.now) c.args.units.now.exprs c.args.e c.in-Some.next c.pop.new.self.items
    c.loop-next.descent.above.items c.loop-next.said c.in-Some.ensures.items c.loop-next.invariant.said in
    (omega (arith, low.1), way.0)

pub judge-loop-next-preserved : goal.judge-loop-next-preserved
judge-loop-next-preserved t c =
    let low = popped_low c.args.e c.in-Some.next c.pop.new.self.items c.loop-next.descent.above.items c.in-Some.ensures.items c.loop-next.invariant.above in
    let way = said_pop (known_meaning c.args.units.now c.args.known.now) c.args.units.now.exprs c.args.e c.in-Some.next c.pop.new.self.items
    c.loop-next.descent.above.items c.loop-next.said c.in-Some.ensures.items c.loop-next.invariant.said in
    record {
      above = low.0;
      said = said_at (known_meaning c.args.units.now c.args.known.now) c.args.units.now.exprs c.args.e c.in-Some.next (reversed c.pop.new.self.items)
          c.in_ok-said-2.said way.1 c.in_ok-said-2.ensures;
    }

pub judge_over-returns-in-Binary : goal.judge_over-returns-in-Binary
judge_over-returns-in-Binary t c =
    result_as c.judge_binary.result _ _
    (over_binary (known_meaning c.args.units.now c.args.known.now) (expr_of c.args.units.now.exprs c.args.e) c.args.first c.requires.first
    c.args.e c.expr_form-formed.result.at c.in-Binary.operator c.in-Binary.place (expr_of c.args.units.now.exprs c.in-Binary.left) (expr_of c.args.units.now.exprs c.in-Binary.right)
    (c.expr_form-formed.ensures.tree ∙ ap (form_tree (expr_of c.args.units.now.exprs) c.args.e c.expr_form-formed.result.at) c.in-Binary.is))
    c.judge_binary.ensures

pub judge_over-returns-in-InRange : goal.judge_over-returns-in-InRange
judge_over-returns-in-InRange t c =
    result_as c.judge_in_range.result _ _
    (over_range (known_meaning c.args.units.now c.args.known.now) (expr_of c.args.units.now.exprs c.args.e) c.args.first c.requires.first
    c.args.e c.expr_form-formed.result.at c.in-InRange.is_not (expr_of c.args.units.now.exprs c.in-InRange.value) (expr_of c.args.units.now.exprs c.in-InRange.low) (expr_of c.args.units.now.exprs c.in-InRange.high)
    (c.expr_form-formed.ensures.tree ∙ ap (form_tree (expr_of c.args.units.now.exprs) c.args.e c.expr_form-formed.result.at) c.in-InRange.is))
    c.judge_in_range.ensures

pub judge_over-returns-in-Constrained : goal.judge_over-returns-in-Constrained
judge_over-returns-in-Constrained t c =
    result_as c.judge_listed-in-Constrained.result _ _
    (over_constrained (known_meaning c.args.units.now c.args.known.now) (expr_of c.args.units.now.exprs c.args.e) c.args.first c.requires.first
    c.args.e c.expr_form-formed.result.at (expr_of c.args.units.now.exprs c.in-Constrained.mark) (expr_of c.args.units.now.exprs c.in-Constrained.low) (expr_of c.args.units.now.exprs c.in-Constrained.high)
    (c.expr_form-formed.ensures.tree ∙ ap (form_tree (expr_of c.args.units.now.exprs) c.args.e c.expr_form-formed.result.at) c.in-Constrained.is))
    c.judge_listed-in-Constrained.ensures
