use Rattle.std.proofs.Common.{subst}
use Rattle.flow_bits.specs.Sets.{Tells, either}
use Rattle.callee_view.specs.Seen.{IsFormalLeaf, IsGlobalLeaf}
use Rattle.contract_facts.specs.Uses.{formal_test, mode_test}
use Rattle.contract_facts.proofs.Used.{used}
use Rattle.contract_facts.proofs.sets.used_by.Goals as goal

pub returns-clause-set : goal.returns-clause-set
returns-clause-set c =
    let p = c.args.program.now in
    let wanted = c.args.wanted in
    let globals = subst (λ gs. Tells c.add_globals.new.into (either c.in_ok-row.row (IsGlobalLeaf p (mode_test wanted) gs))) c.as_slice.ensures c.add_globals.ensures.set in
    let formals = subst (λ fs. Tells c.add_formals.new.into (either c.add_globals.new.into (IsFormalLeaf p (formal_test wanted) fs))) c.as_slice-2.ensures c.add_formals.ensures.set in
    used p c.args.body.0 c.args.node.now c.args.contract.now wanted c.in_ok-row.row c.add_globals.new.into c.add_formals.new.into c.add_others.new.into
    c.in_ok-row.ensures.empty globals formals c.add_others.ensures.set
