use Rattle.std.proofs.Common.{◌<◌, length, get_or}
use Rattle.std.proofs.lemmas.Option.{slice_get-get_or}
use Rattle.core_form.specs.declared.program.Item.{Item}
use Rattle.spark_messages.specs.declared.messages.Message.{Message}
use Rattle.depends_check.specs.DependsCheck.{IsUsedPair, IsWrongPair, aspect_of, pairs_of}
use Rattle.used_modes.proofs.Adding.{begun, ended, one_more}
use Rattle.depends_check.proofs.dependencies.append_wrong_items.Goals as goal

pub loop-item-init : goal.loop-item-init
loop-item-init c = begun (λ (o : Item) (m : Message). IsWrongPair c.args.program.now c.args.body.now (aspect_of c.args.contract.now)
    (pairs_of c.args.contract.now) o (IsUsedPair c.args.program.now c.args.rows.now c.args.number.0 c.args.body.now c.args.contract.now
    o) m) c.args.items.now c.args.list.now

pub loop-item-preserved : goal.loop-item-preserved
loop-item-preserved c =
    let none : Item = Item.Whole (record { 0 = 0 }) in
    let within : c.loop-item.item-index < length c.args.items.now = c.loop-item-test.true in
    one_more (λ (o : Item) (m : Message). IsWrongPair c.args.program.now c.args.body.now (aspect_of c.args.contract.now) (pairs_of
    c.args.contract.now) o (IsUsedPair c.args.program.now c.args.rows.now c.args.number.0 c.args.body.now c.args.contract.now o) m)
    c.args.items.now c.args.list.now c.loop-item.list c.append_wrong_item.new.list c.loop-item.item-index (get_or c.args.items.now
    c.loop-item.item-index none) (slice_get-get_or c.args.items.now c.loop-item.item-index none within) c.loop-item.invariant
    (c.in_ok-append_wrong_item.ensures)

pub returns : goal.returns
returns c = ended (λ (o : Item) (m : Message). IsWrongPair c.args.program.now c.args.body.now (aspect_of c.args.contract.now) (pairs_of
    c.args.contract.now) o (IsUsedPair c.args.program.now c.args.rows.now c.args.number.0 c.args.body.now c.args.contract.now o) m)
    c.args.items.now c.args.list.now c.loop-item.list c.loop-item.item-index c.loop-item-test.false c.loop-item.invariant
