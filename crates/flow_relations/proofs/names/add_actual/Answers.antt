use Rattle.std.proofs.Common.{arith}
use Rattle.flow_relations.proofs.names.add_actual.Goals as goal

pub returns-clause-set : goal.returns-clause-set
returns-clause-set c = λ v.
    let values = rw c.as_slice.ensures at c.add_all_reads.ensures.set v in
    let back = c.add_places.ensures.set v in
    grind (arith, values, back)
