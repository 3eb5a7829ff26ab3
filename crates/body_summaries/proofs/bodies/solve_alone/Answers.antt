use Rattle.std.proofs.Common.{◌<◌, ◌^◌, [], List, length, sym, subst, arith}
use Rattle.std.specs.Prelude.{slice_index_or}
use Rattle.spark_base.specs.declared.numbers.BodyNo.{BodyNo}
use Rattle.call_lists.specs.Lists.{Names}
use Rattle.body_summaries.proofs.Calls.{bodies_few, calls_is}
use Rattle.body_summaries.proofs.bodies.solve_alone.Goals as goal

pub solve_alone-requires-clause-room : goal.solve_alone-requires-clause-room
solve_alone-requires-clause-room c =
    let few = bodies_few c.args.layout.now c.requires.layout.layout in
    let b = c.requires.layout.bodies in
    let s = c.in_ok-callers.ensures.lists.size in
    subst (λ (lists : List (List BodyNo)). length lists < 2 ^ 32) (sym c.as_slice.ensures.value) (omega (arith, few, b, s))

pub solve_alone-requires-clause-callers : goal.solve_alone-requires-clause-callers
solve_alone-requires-clause-callers c b d h =
    subst (λ (lists : List (List BodyNo)). Names (slice_index_or lists d []) b) (sym c.as_slice.ensures.value)
    ((c.in_ok-callers.ensures.names b d).1 (calls_is c.args.program.now b d h))
