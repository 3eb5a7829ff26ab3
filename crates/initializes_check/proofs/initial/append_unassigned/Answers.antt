use Rattle.std.proofs.Common.{◌<◌, length, get_or}
use Rattle.std.proofs.lemmas.Option.{slice_get-get_or}
use Rattle.core_form.specs.declared.program.InitialItem.{InitialItem}
use Rattle.flow_bits.specs.Sets.{Has}
use Rattle.spark_messages.specs.declared.messages.Message.{Message}
use Rattle.used_modes.proofs.Adding.{begun, ended, one_more}
use Rattle.initializes_check.specs.InitializesCheck.{IsNotInitialized}
use Rattle.initializes_check.proofs.initial.append_unassigned.Goals as goal

pub loop-listed-init : goal.loop-listed-init
loop-listed-init c = begun (λ (i : InitialItem) (m : Message). IsNotInitialized c.args.program.now (Has c.args.unset.now) i m)
    c.args.items.now c.args.list.now

pub loop-listed-preserved : goal.loop-listed-preserved
loop-listed-preserved c =
    let none : InitialItem = record {
      item = record { 0 = 0 };
      place = record {
        file = record { 0 = 0 };
        «from» = record { line = 0; col = 0 };
        to = record { line = 0; col = 0 };
      };
    } in
    let within : c.loop-listed.listed-index < length c.args.items.now = c.loop-listed-test.true in
    one_more (λ (i : InitialItem) (m : Message). IsNotInitialized c.args.program.now (Has c.args.unset.now) i m) c.args.items.now
    c.args.list.now c.loop-listed.list c.append_unassigned_item.new.list c.loop-listed.listed-index (get_or c.args.items.now
    c.loop-listed.listed-index none)
    (slice_get-get_or c.args.items.now c.loop-listed.listed-index none within) c.loop-listed.invariant
    c.in_ok-append_unassigned_item.ensures

pub returns : goal.returns
returns c = ended (λ (i : InitialItem) (m : Message). IsNotInitialized c.args.program.now (Has c.args.unset.now) i m) c.args.items.now
    c.args.list.now c.loop-listed.list c.loop-listed.listed-index c.loop-listed-test.false c.loop-listed.invariant
