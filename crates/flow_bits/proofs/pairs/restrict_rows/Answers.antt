use Rattle.std.proofs.Common.{◌<◌, ◌≤◌, arith}
use Rattle.flow_bits.proofs.Squares.{pairs_within}
use Rattle.flow_bits.proofs.pairs.restrict_rows.Goals as goal

pub returns-clause-set : goal.returns-clause-set
returns-clause-set c =
    let e : c.args.size ≤ c.loop-a.a = omega arith in
    λ x y.
    let set = c.loop-a.invariant.set x y in (
      λ r. let s = set.0 r in let w = pairs_within c.args.size c.args.into.now x y s.0 in let l : x < c.loop-a.a = omega (arith, w.0, e) in (s.0, s.1 l),
      λ s. set.1 (s.0, λ l. s.1),
    )
