use Rattle.std.proofs.Common.{◌↔◌, subst}
use Rattle.std.specs.List.{Contains}
use Rattle.std.proofs.lemmas.Result.{on_ok_weaker}
use Rattle.core_form.specs.declared.program.Item.{Item}
use Rattle.used_modes.specs.Added.{Adds}
use Rattle.depends_check.specs.DependsCheck.{IsUsedPair, IsWrongPair, aspect_of, pairs_of}
use Rattle.depends_check.proofs.Wrong.{pair_same}
use Rattle.depends_check.proofs.dependencies.append_wrong_item.Goals as goal

pub returns : goal.returns
returns c =
    let p = c.args.program.now in
    let body = c.args.body.now in
    let o = c.args.item in
    let used = c.in_ok-used.used in
    let same : (i : Item) → Contains used i ↔ IsUsedPair p c.args.rows.now c.args.number.0 body c.args.contract.now o i = λ i. (
      λ h. let k = (c.in_ok-used.ensures.set i).0 h in ((c.requires.outputs o).0 k.0, k.1),
      λ h. (c.in_ok-used.ensures.set i).1 ((c.requires.outputs o).1 h.0, h.1),
    ) in
    on_ok_weaker c.append_wrong_pairs.result
    (λ a. pair_same p body (aspect_of c.args.contract.now) (pairs_of c.args.contract.now) o (Contains used) (IsUsedPair p c.args.rows.now
    c.args.number.0 body c.args.contract.now o) same
    c.args.list.now c.append_wrong_pairs.new.list
    (subst (λ at. Adds c.args.list.now c.append_wrong_pairs.new.list (IsWrongPair p body at (pairs_of c.args.contract.now) o (Contains
    used))) c.aspect_of-aspect.ensures
    (subst (λ ps. Adds c.args.list.now c.append_wrong_pairs.new.list (IsWrongPair p body c.aspect_of-aspect.result ps o (Contains used)))
    c.pairs_of.ensures a)))
    c.append_wrong_pairs.ensures
