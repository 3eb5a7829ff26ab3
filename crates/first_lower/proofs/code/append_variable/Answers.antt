use Rattle.std.proofs.Common.{◌++◌, ◌∷◌, [], length, ap, arith}
use Rattle.std.proofs.lemmas.List.{length-append}
use Rattle.core_form.specs.declared.code.CoreStmt.{CoreStmt}
use Rattle.core_form.specs.Code.{Code, Assign, Clear, Constant, Then}
use Rattle.std.specs.Prelude.{pos}
use Rattle.first_lower.specs.Lowered.{whole, checked}
use Rattle.first_lower.specs.Steps.{Lists}
use Rattle.first_lower.proofs.Listing.{lists_one, lists_then}
use Rattle.first_lower.proofs.code.append_variable.Goals as goal

pub returns : goal.returns
returns c =
    let fresh : Lists c.args.nodes.now c.add_stmt.new.self c.args.list.now (c.args.list.now ++ c.in_ok-fresh.fresh ∷ []) (Then (Clear c.args.leaf.0)) =
    lists_one c.args.nodes.now c.add_stmt.new.self c.args.list.now c.in_ok-fresh.fresh (Clear c.args.leaf.0)
    (record { fine = c.in_ok-fresh.ensures.fine; leaves = c.in_ok-fresh.ensures.leaves; older = c.in_ok-fresh.ensures.older })
    c.requires.within (omega (arith, c.in_ok-fresh.ensures.number, ap length c.in_ok-fresh.ensures.stmts, length-append {A = CoreStmt})) c.in_ok-fresh.ensures.tree in
    let move : Code = Assign (whole c.args.leaf.0) (checked (Constant (pos c.args.variable.now.value))) c.args.variable.now.name.span in
    let next : Lists c.add_stmt.new.self c.add_initial.new.nodes (c.args.list.now ++ c.in_ok-fresh.fresh ∷ []) ((c.args.list.now ++ c.in_ok-fresh.fresh ∷ []) ++ c.in_ok-initial.initial ∷ []) (Then move) =
    lists_one c.add_stmt.new.self c.add_initial.new.nodes (c.args.list.now ++ c.in_ok-fresh.fresh ∷ []) c.in_ok-initial.initial move
    c.in_ok-initial.ensures.adds fresh.within c.in_ok-initial.ensures.within c.in_ok-initial.ensures.code in
    rw (c.in_ok-push-2.ensures.ok, c.in_ok-push.ensures.ok) (lists_then _ _ _ _ _ _ (Then (Clear c.args.leaf.0)) (Then move) fresh next)
