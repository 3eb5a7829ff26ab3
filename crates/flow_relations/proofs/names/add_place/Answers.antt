use Rattle.std.proofs.Common.{arith}
use Rattle.flow_relations.proofs.names.add_place.Goals as goal

pub returns-clause-set : goal.returns-clause-set
returns-clause-set c = λ v.
    let all = rw c.as_slice.ensures at c.add_all_reads.ensures.set v in
    grind (arith, c.number.ensures, c.add.ensures.set v, all)
