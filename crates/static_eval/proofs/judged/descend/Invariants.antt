use Rattle.std.proofs.Common.{◌≤◌}
use Rattle.std.specs.Prelude.{All}
use Rattle.spark_base.specs.declared.numbers.ExprNo.{ExprNo}
use Rattle.static_eval.specs.Judged.{reversed, Spine}
use Rattle.static_eval.proofs.judged.descend.Given as goal

abbrev pub invariant-loop-first : goal.invariant-loop-first
invariant-loop-first l = record {
  spine : Spine l.units.exprs l.fn.e (reversed l.above.items) l.at;
  above : All (λ (x : ExprNo). x.0 ≤ l.fn.e.0) l.above.items;
  low : l.at.0 ≤ l.fn.e.0;
}

abbrev pub decreases-loop-first : goal.decreases-loop-first
decreases-loop-first l = l.at.0
