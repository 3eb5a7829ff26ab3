use Rattle.std.proofs.Common.{arith}
use Rattle.flow_facts.proofs.Within.{has_within}
use Rattle.contract_facts.proofs.Views.{about_contract}
use Rattle.contract_facts.proofs.view.contract_leaves.Goals as goal

pub returns-clause-below : goal.returns-clause-below
returns-clause-below c = λ v i e.
    let l = ((c.in_ok-leaves.ensures.all v).0 (i, e)).0 in
    let size = c.in_ok-named.ensures.size in
    omega (arith, l, size)

pub returns-clause-about : goal.returns-clause-about
returns-clause-about c =
    let listed = c.in_ok-leaves.ensures in
    let set = c.in_ok-named.ensures.set in
    about_contract c.args.program.now c.args.body.0 c.args.node.now c.args.contract.now c.in_ok-leaves.leaves
    (λ v. (λ p. (set v).0 ((listed.all v).0 p).1, λ h. (listed.all v).1 (has_within c.in_ok-named.named v ((set v).1 h), (set v).1 h)))
