use Rattle.std.proofs.Common.{arith}
use Rattle.program_layout.proofs.Belonging.{home_within}
use Rattle.program_layout.proofs.Steps.{all_of, one_more}
use Rattle.program_layout.proofs.holders.add_passed.Goals as goal

pub loop-leaf-preserved : goal.loop-leaf-preserved
loop-leaf-preserved c = record {
  size = c.in_ok-add_passed_leaf.ensures.size;
  below = c.in_ok-add_passed_leaf.ensures.below;
  names = λ v b. one_more v c.loop-leaf.leaf (c.loop-leaf.invariant.names v b) (c.in_ok-add_passed_leaf.ensures.names v b);
}

pub returns-clause-names : goal.returns-clause-names
returns-clause-names c = λ v b. all_of (c.loop-leaf.invariant.names v b)
    (λ h. let l = home_within c.args.program.now v _ h in let end = c.loop-leaf-test.false in omega (arith, l, end))
