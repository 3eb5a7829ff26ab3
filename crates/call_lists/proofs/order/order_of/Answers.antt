use Rattle.std.proofs.Common.{List, subst}
use Rattle.spark_base.specs.declared.numbers.BodyNo.{BodyNo}
use Rattle.call_lists.specs.Lists.{Names}
use Rattle.call_lists.proofs.order.order_of.Goals as goal

pub returns-then-complete-clause-all : goal.returns-then-complete-clause-all
returns-then-complete-clause-all c = λ b l.
    subst (λ (bs : List BodyNo). Names bs b) c.as_slice.ensures.value (c.in_ok-complete.ensures c.if-complete.true b l)
