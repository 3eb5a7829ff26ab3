use Rattle.std.proofs.Common.{◌≡◌, length, arith}
use Rattle.flow_relations.specs.Framing.{IsOwn}
use Rattle.flow_relations.proofs.Frames.{home_within}
use Rattle.flow_relations.proofs.named.add_own.Goals as goal

pub returns-clause-set : goal.returns-clause-set
returns-clause-set c = λ v.
    let p = c.args.program.now in
    let all : c.loop-leaf.leaf ≡ length p.leaves = omega arith in
    grind (arith, c.loop-leaf.invariant.set v, home_within p v (IsOwn c.args.body.0))
