use Rattle.std.proofs.Common.{arith}
use Rattle.flow_relations.proofs.calls.spot_reads.Goals as goal

pub returns-clause-set : goal.returns-clause-set
returns-clause-set c = λ v.
    let all = rw c.as_slice.ensures at c.add_all_reads.ensures.set v in
    grind (arith, c.add.ensures.set v, c.clear.ensures.set v, all)
