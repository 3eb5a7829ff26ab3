use Rattle.std.proofs.Common.{◌≡◌, Option, Some, None, refl, sym, subst}
use Rattle.std.specs.Prelude.{IfSome}
use Rattle.core_form.specs.Fine.{IsFineBody, IsFineContract}
use Rattle.core_form.specs.declared.contract.Contract.{Contract}
use Rattle.core_form.specs.declared.program.Program.{Program}
use Rattle.run_laws.proofs.Names.{All_got}
use Rattle.flow_driver.specs.GlobalCheck.{global_messages}
use Rattle.flow_driver.specs.Report.{AreBodyMessages, checked_contract}
use Rattle.flow_driver.proofs.report.append_body_messages.Goals as goal

-- the contract by which a body is checked is one of its two
fine_checked : (p : Program) (inner outer : Option Contract) → IfSome inner (IsFineContract p) → IfSome outer (IsFineContract p) → (k : Contract)
    → Some k ≡ elim inner [ Some x ↦ Some x | None ↦ outer ] → IsFineContract p k
fine_checked p None None h j k e = let n : Option Contract = None in let z : Some k ≡ n = e in absurd (cc)
fine_checked p None (Some x) h j k e = let z : Some k ≡ Some x = e in let s : k ≡ x = cc in subst (IsFineContract p) (sym s) j
fine_checked p (Some x) outer h j k e = let z : Some k ≡ Some x = e in let s : k ≡ x = cc in subst (IsFineContract p) (sym s) h

pub append_global_messages-requires-clause-contract : goal.append_global_messages-requires-clause-contract
append_global_messages-requires-clause-contract c =
    let p = c.args.program.now in
    let body = c.args.body.now in
    let fine : IsFineBody p body = All_got (IsFineBody p) p.bodies c.args.number.0 body c.requires.fine.bodies c.requires.body in
    let is : Some c.in-Some.contract.now ≡ checked_contract body = c.in-Some.ensures in
    (fine_checked p body.inner body.outer fine.inner fine.outer c.in-Some.contract.now is).globals

pub returns-in_ok-append_global_messages-in-Some : goal.returns-in_ok-append_global_messages-in-Some
returns-in_ok-append_global_messages-in-Some c =
    let p = c.args.program.now in
    let body = c.args.body.now in
    let found = global_messages p c.in_ok-row-in-Some.row body c.in-Some.contract.now in
    let checked : AreBodyMessages p c.args.number.0 body (Some c.in-Some.contract.now) found = record { row = c.in_ok-row-in-Some.row; is_row = c.in_ok-row-in-Some.ensures.row; list_is = refl } in
    let is : Some c.in-Some.contract.now ≡ checked_contract body = c.in-Some.ensures in
    record {
      found = found;
      are_found = subst (λ o. AreBodyMessages p c.args.number.0 body o found) is checked;
      grew = c.in_ok-append_global_messages-in-Some.ensures;
    }
