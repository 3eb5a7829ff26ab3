use Rattle.std.proofs.Common.{subst}
use Rattle.std.specs.List.{Contains}
use Rattle.std.proofs.lemmas.Result.{on_ok_weaker}
use Rattle.used_modes.specs.Added.{Adds}
use Rattle.depends_check.specs.DependsCheck.{IsOn, IsWrongSide, aspect_of, pairs_of}
use Rattle.depends_check.proofs.Fine.{all_on_fine}
use Rattle.depends_check.proofs.Wrong.{side_same}
use Rattle.depends_check.proofs.faults.append_wrong_side.Goals as goal

pub append_wrong_mentions-requires-clause-items : goal.append_wrong_mentions-requires-clause-items
append_wrong_mentions-requires-clause-items c = all_on_fine c.args.program.now c.requires.fine c.args.number.0 c.args.body.now
    c.args.contract.now c.args.side c.requires.body c.in_ok-items.items c.in_ok-items.ensures

pub returns : goal.returns
returns c =
    let p = c.args.program.now in
    let body = c.args.body.now in
    let k = c.args.contract.now in
    let items = c.in_ok-items.items in
    on_ok_weaker c.append_wrong_mentions.result
    (λ a. side_same p body c.args.side (aspect_of k) (pairs_of k) (Contains items) (IsOn p c.args.number.0 body k c.args.side)
    c.in_ok-items.ensures c.args.list.now c.append_wrong_mentions.new.list
    (subst (λ at. Adds c.args.list.now c.append_wrong_mentions.new.list (IsWrongSide p body c.args.side (Contains items) at (pairs_of
    k))) c.aspect_of-aspect.ensures
    (subst (λ ps. Adds c.args.list.now c.append_wrong_mentions.new.list (IsWrongSide p body c.args.side (Contains items)
    c.aspect_of-aspect.result ps)) c.pairs_of.ensures a)))
    c.append_wrong_mentions.ensures
