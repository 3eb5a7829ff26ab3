use Rattle.std.proofs.Common.{◌≡◌, ◌≤◌, ◌++◌, ◌∷◌, ◌+◌, ◌*◌, length, drop, map}
use Rattle.std.specs.Prelude.{All}
use Rattle.spark_base.specs.declared.numbers.ExprNo.{ExprNo}
use Rattle.ada_forms.specs.Forms.{expr_of, listed}
use Rattle.static_eval.specs.Judged.{judged_all, reversed}
use Rattle.static_eval.proofs.Spines.{IsSaid}
use Rattle.static_eval.specs.Known.{known_meaning}
use Rattle.static_eval.proofs.judged.+judging.Given as goal

abbrev pub decreases-judge : goal.decreases-judge
decreases-judge l = 4 * l.e.0 + 3

abbrev pub decreases-judge_over : goal.decreases-judge_over
decreases-judge_over l = 4 * l.e.0 + 2

abbrev pub decreases-judge_listed : goal.decreases-judge_listed
decreases-judge_listed l = 4 * l.below + 1

abbrev pub decreases-judge_attribute : goal.decreases-judge_attribute
decreases-judge_attribute l = 4 * l.below + 1

abbrev pub decreases-judge_conditional : goal.decreases-judge_conditional
decreases-judge_conditional l = 4 * l.below + 1

abbrev pub decreases-judge_qualified : goal.decreases-judge_qualified
decreases-judge_qualified l = 4 * l.below + 1

abbrev pub decreases-judge_argument : goal.decreases-judge_argument
decreases-judge_argument l = 4 * l.below + 1

abbrev pub decreases-judge_binary : goal.decreases-judge_binary
decreases-judge_binary l = 4 * l.below + 1

abbrev pub decreases-judge_in_range : goal.decreases-judge_in_range
decreases-judge_in_range l = 4 * l.below + 1

abbrev pub decreases-judge_in_mark : goal.decreases-judge_in_mark
decreases-judge_in_mark l = 4 * l.below + 1

abbrev pub decreases-judge_applied : goal.decreases-judge_applied
decreases-judge_applied l = 4 * l.e.0 + 1

abbrev pub decreases-judge_all : goal.decreases-judge_all
decreases-judge_all l = 4 * l.below

abbrev pub invariant-judge-loop-next : goal.invariant-judge-loop-next
invariant-judge-loop-next l = record {
  above : All (λ (x : ExprNo). x.0 ≤ l.fn.e.0) l.descent.above.items;
  said : IsSaid (known_meaning l.units l.known) l.units.exprs l.fn.e (reversed l.descent.above.items) l.said;
}

abbrev pub decreases-judge-loop-next : goal.decreases-judge-loop-next
decreases-judge-loop-next l = length l.descent.above.items

abbrev pub invariant-judge_all-loop-c : goal.invariant-judge_all-loop-c
invariant-judge_all-loop-c l =
    l.parts.items ++ judged_all (known_meaning l.units l.known) (listed (map (expr_of l.units.exprs) (drop l.c-index l.others)))
    ≡ l.fn.first ∷ judged_all (known_meaning l.units l.known) (listed (map (expr_of l.units.exprs) l.others))
