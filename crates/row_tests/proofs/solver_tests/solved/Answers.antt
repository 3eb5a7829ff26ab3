use Rattle.std.proofs.Common.{List, [], get_or, subst, sym}
use Rattle.spark_base.specs.declared.numbers.BodyNo.{BodyNo}
use Rattle.call_lists.specs.Lists.{Names}
use Rattle.row_solver.specs.Toy.{CallsIn}
use Rattle.row_tests.proofs.solver_tests.solved.Goals as goal

pub solve_alone-requires-clause-callers : goal.solve_alone-requires-clause-callers
solve_alone-requires-clause-callers c = λ b k m.
    subst (λ (lists : List (List BodyNo)). Names (get_or lists k []) b) (sym c.as_slice-2.ensures.value)
    ((c.in_ok-callers.ensures.names b k).0 (subst (λ (lists : List (List BodyNo)). CallsIn lists b k) (sym c.as_slice.ensures) m))
