use Rattle.std.proofs.Common.{◌≤◌, arith}
use Rattle.flow_bits.proofs.Squares.{pairs_within}
use Rattle.flow_bits.proofs.Steps.{rows_done}
use Rattle.flow_bits.proofs.pairs.union_rows.Goals as goal

pub returns-clause-set : goal.returns-clause-set
returns-clause-set c =
    let e : c.args.size ≤ c.loop-a.a = omega arith in
    λ x y. rows_done c.loop-a.a c.args.size x e (λ r. (pairs_within c.args.size c.args.from.now x y r).0) (c.loop-a.invariant.set x y)
