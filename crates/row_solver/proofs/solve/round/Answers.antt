use Rattle.std.proofs.Common.{List, arith, subst, sym}
use Rattle.spark_base.specs.declared.numbers.BodyNo.{BodyNo}
use Rattle.call_lists.specs.Lists.{Names}
use Rattle.row_solver.proofs.Solving.{marked_below}
use Rattle.row_solver.proofs.solve.round.Goals as goal

pub returns-else-out-clause-quiet : goal.returns-else-out-clause-quiet
returns-else-out-clause-quiet g c = λ q b h.
    let flags = c.in_ok-home.ensures.solving.flags in
    let below = marked_below c.sweep-2.new.dirty b h in
    (c.in_ok-home.ensures.quiet q b h).1
    (subst (λ (bs : List BodyNo). Names bs b) (sym c.as_slice-2.ensures.value) (c.requires.all b (omega (arith, flags, below))))
