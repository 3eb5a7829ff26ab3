use Rattle.std.proofs.Common.{arith}
use Rattle.program_layout.proofs.Belonging.{flag_within}
use Rattle.program_layout.proofs.Steps.{all_of, one_more}
use Rattle.program_layout.proofs.named.add_named_leaves.Goals as goal

pub loop-leaf-preserved : goal.loop-leaf-preserved
loop-leaf-preserved c =
    let is = c.loop-leaf.invariant in
    let own = c.in_ok-add_named_leaf.ensures in
    let size = own.size in
    let before = is.size in
    record {
      size = omega (arith, size, before);
      below = λ n l h. own.below n l (is.below n l h);
      names = λ v b. one_more v c.loop-leaf.leaf (is.names v b) (own.names v b);
    }

pub returns-clause-names : goal.returns-clause-names
returns-clause-names c = λ v b. all_of (c.loop-leaf.invariant.names v b)
    (λ t. let l = flag_within c.args.library.now v t.1.0 in let end = c.loop-leaf-test.false in omega (arith, l, end))
