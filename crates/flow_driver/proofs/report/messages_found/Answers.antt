use Rattle.std.proofs.Common.{◌≡◌, List, [], ◌∷◌, ◌++◌, ◌+◌, drop, refl, sym, subst, append_assoc, append-nil, arith}
use Rattle.core_form.specs.declared.program.Body.{Body}
use Rattle.spark_messages.specs.declared.messages.Message.{Message}
use Rattle.flow_driver.specs.Report.{AreMessagesFrom}
use Rattle.flow_driver.proofs.Leaves.{drop_get, drop_all}
use Rattle.flow_driver.proofs.report.messages_found.Goals as goal

pub loop-b-preserved : goal.loop-b-preserved
loop-b-preserved c = λ rest are.
    let next = c.in_ok-append_body_messages.ensures in
    let split : drop c.loop-b.b c.args.program.now.bodies ≡ c.at.result.now ∷ drop (c.loop-b.b + 1) c.args.program.now.bodies = drop_get c.args.program.now.bodies c.loop-b.b c.at.result.now c.at.ensures in
    rw (next.grew, append_assoc)
    (c.loop-b.invariant (next.found ++ rest)
    (subst (λ (bodies : List Body). AreMessagesFrom c.args.program.now c.loop-b.b bodies (next.found ++ rest)) (sym split)
    (record { first = next.found; others = rest; is_first = next.are_found; are_others = are; list_is = refl })))

pub returns : goal.returns
returns c =
    let none : drop c.loop-b.b c.args.program.now.bodies ≡ [] = drop_all c.args.program.now.bodies c.loop-b.b (omega (arith, c.len-count.ensures)) in
    subst (λ (list : List Message). AreMessagesFrom c.args.program.now 0 c.args.program.now.bodies list) (append-nil c.loop-b.list)
    (c.loop-b.invariant [] (subst (λ (bodies : List Body). AreMessagesFrom c.args.program.now c.loop-b.b bodies []) (sym none) refl))
