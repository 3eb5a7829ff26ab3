use Rattle.std.proofs.Common.{◌<◌, arith}
use Rattle.unset_moments.proofs.Behind.{first_within}
use Rattle.unset_moments.proofs.endings.first_moment.Goals as goal

pub returns-clause-set : goal.returns-clause-set
returns-clause-set c = λ v. (
  λ h. ((c.loop-leaf.invariant.set v).0 h).1,
  λ f.
      let m = first_within c.args.program.now v f in
      let l : v < c.loop-leaf.leaf = omega (arith, m, c.len-count.ensures, c.loop-leaf-test.false) in
      (c.loop-leaf.invariant.set v).1 (l, f),
)
