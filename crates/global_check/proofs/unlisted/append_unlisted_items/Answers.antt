use Rattle.std.proofs.Common.{◌<◌, length, get_or}
use Rattle.std.proofs.lemmas.Option.{slice_get-get_or}
use Rattle.core_form.specs.declared.program.Item.{Item}
use Rattle.spark_messages.specs.declared.messages.Message.{Message}
use Rattle.used_modes.specs.UsedModes.{row_of}
use Rattle.used_modes.proofs.Adding.{begun, ended, one_more}
use Rattle.global_check.specs.GlobalCheck.{TellsUnlisted}
use Rattle.global_check.proofs.unlisted.append_unlisted_items.Goals as goal

pub loop-item-init : goal.loop-item-init
loop-item-init c = begun (λ (i : Item) (m : Message). TellsUnlisted c.args.program.now (row_of c.args.rows.now c.args.number.0)
    c.args.body.now i m) c.args.items.now c.args.list.now

pub loop-item-preserved : goal.loop-item-preserved
loop-item-preserved c =
    let none : Item = Item.Whole (record { 0 = 0 }) in
    let within : c.loop-item.item-index < length c.args.items.now = c.loop-item-test.true in
    one_more (λ (i : Item) (m : Message). TellsUnlisted c.args.program.now (row_of c.args.rows.now c.args.number.0) c.args.body.now i m)
    c.args.items.now c.args.list.now c.loop-item.list c.append_unlisted_item.new.list c.loop-item.item-index (get_or c.args.items.now
    c.loop-item.item-index none)
    (slice_get-get_or c.args.items.now c.loop-item.item-index none within) c.loop-item.invariant c.in_ok-append_unlisted_item.ensures

pub returns : goal.returns
returns c = ended (λ (i : Item) (m : Message). TellsUnlisted c.args.program.now (row_of c.args.rows.now c.args.number.0) c.args.body.now
    i m) c.args.items.now c.args.list.now c.loop-item.list c.loop-item.item-index c.loop-item-test.false c.loop-item.invariant
