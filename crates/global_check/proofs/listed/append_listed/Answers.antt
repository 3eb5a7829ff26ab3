use Rattle.std.proofs.Common.{◌<◌, length, get_or}
use Rattle.std.proofs.lemmas.Option.{slice_get-get_or}
use Rattle.core_form.specs.declared.contract.GlobalItem.{GlobalItem}
use Rattle.core_form.specs.declared.contract.Mode.TheVariants as modes
use Rattle.spark_messages.specs.declared.messages.Message.{Message}
use Rattle.used_modes.specs.UsedModes.{row_of}
use Rattle.used_modes.proofs.Adding.{begun, ended, one_more}
use Rattle.global_check.specs.GlobalCheck.{IsListedWrong}
use Rattle.global_check.proofs.listed.append_listed.Goals as goal

pub loop-global-init : goal.loop-global-init
loop-global-init c = begun (λ (g : GlobalItem) (m : Message). IsListedWrong c.args.program.now (row_of c.args.rows.now c.args.number.0)
    c.args.body.now g m) c.args.globals.now c.args.list.now

pub loop-global-preserved : goal.loop-global-preserved
loop-global-preserved c =
    let none : GlobalItem = record {
      item = record { 0 = 0 };
      mode = modes.Input;
      place = record {
        file = record { 0 = 0 };
        «from» =
            record { line = 0; col = 0 };
        to = record { line = 0; col = 0 };
      };
    } in
    let within : c.loop-global.global-index < length c.args.globals.now = c.loop-global-test.true in
    one_more (λ (g : GlobalItem) (m : Message). IsListedWrong c.args.program.now (row_of c.args.rows.now c.args.number.0) c.args.body.now
    g m) c.args.globals.now c.args.list.now c.loop-global.list c.append_listed_item.new.list c.loop-global.global-index (get_or
    c.args.globals.now c.loop-global.global-index none)
    (slice_get-get_or c.args.globals.now c.loop-global.global-index none within) c.loop-global.invariant c.in_ok-append_listed_item.ensures

pub returns : goal.returns
returns c = ended (λ (g : GlobalItem) (m : Message). IsListedWrong c.args.program.now (row_of c.args.rows.now c.args.number.0)
    c.args.body.now g m) c.args.globals.now c.args.list.now c.loop-global.list c.loop-global.global-index c.loop-global-test.false
    c.loop-global.invariant
