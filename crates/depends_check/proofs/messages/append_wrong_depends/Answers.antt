use Rattle.std.proofs.lemmas.Result.{on_ok_weaker}
use Rattle.core_form.specs.declared.program.Item.{Item}
use Rattle.spark_messages.specs.declared.messages.Message.{Message}
use Rattle.used_modes.proofs.Adding.{adds_both}
use Rattle.depends_check.specs.DependsCheck.{IsUsedPair, IsWrongItem, IsWrongPair, aspect_of, pairs_of}
use Rattle.depends_check.proofs.messages.append_wrong_depends.Goals as goal

pub returns : goal.returns
returns c =
    let p = c.args.program.now in
    let body = c.args.body.now in
    let k = c.args.contract.now in
    on_ok_weaker c.append_dependencies.result
    (λ a. adds_both c.args.list.now c.append_faults.new.list c.append_dependencies.new.list (IsWrongItem p c.args.number.0 body k)
    (λ (m : Message). (o : Item) × IsWrongPair p body (aspect_of k) (pairs_of k) o (IsUsedPair p c.args.rows.now c.args.number.0 body k
    o) m) c.in_ok-append_faults.ensures a)
    c.append_dependencies.ensures
