use Rattle.std.proofs.Common.{subst}
use Rattle.std.proofs.lemmas.Result.{on_ok_weaker}
use Rattle.used_modes.specs.Added.{Adds, SomeOf}
use Rattle.depends_check.specs.DependsCheck.{IsOn, IsUsed, IsUsedPair, IsWrongPair, aspect_of, pairs_of}
use Rattle.depends_check.specs.declared.sides.Side.{Side}
use Rattle.depends_check.proofs.Wrong.{each_left}
use Rattle.depends_check.proofs.dependencies.append_dependencies.Goals as goal

pub returns : goal.returns
returns c =
    let p = c.args.program.now in
    let rows = c.args.rows.now in
    let b = c.args.number.0 in
    let body = c.args.body.now in
    let k = c.args.contract.now in
    on_ok_weaker c.append_wrong_items.result
    (λ a. each_left p body (aspect_of k) (pairs_of k) (IsOn p b body k Side.Output) (IsUsed p rows b body) c.in_ok-items.items
    c.in_ok-items.ensures.set c.args.list.now c.append_wrong_items.new.list
    (subst (λ xs. Adds c.args.list.now c.append_wrong_items.new.list (λ m. SomeOf (λ o. IsWrongPair p body (aspect_of k) (pairs_of k) o
    (IsUsedPair p rows b body k o) m) xs)) c.as_slice.ensures a))
    c.append_wrong_items.ensures
