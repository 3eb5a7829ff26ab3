use Rattle.std.proofs.Common.{◌<◌, length, get_or}
use Rattle.std.proofs.lemmas.Option.{slice_get-get_or}
use Rattle.core_form.specs.declared.contract.GlobalItem.{GlobalItem}
use Rattle.core_form.specs.declared.program.Item.{Item}
use Rattle.core_form.specs.declared.contract.Mode.TheVariants as modes
use Rattle.depends_check.specs.DependsCheck.{IsGlobalOn}
use Rattle.depends_check.proofs.Grown.{noted}
use Rattle.used_modes.proofs.Adding.{begun, ended, one_more}
use Rattle.depends_check.proofs.sides.note_globals.Goals as goal

pub loop-global-init : goal.loop-global-init
loop-global-init c = begun (λ (g : GlobalItem) (i : Item). IsGlobalOn c.args.program.now c.args.side g i) c.args.globals.now
    c.args.items.now

pub loop-global-preserved : goal.loop-global-preserved
loop-global-preserved c =
    let none : GlobalItem = record {
      item = record { 0 = 0 };
      mode = modes.Input;
      place = record {
        file = record { 0 = 0 };
        «from» =
            record { line = 0; col = 0 };
        to = record { line = 0; col = 0 };
      };
    } in
    let within : c.loop-global.global-index < length c.args.globals.now = c.loop-global-test.true in
    one_more (λ (g : GlobalItem) (i : Item). IsGlobalOn c.args.program.now c.args.side g i) c.args.globals.now c.args.items.now
    c.loop-global.items c.note_some.new.self c.loop-global.global-index (get_or c.args.globals.now c.loop-global.global-index none)
    (slice_get-get_or c.args.globals.now c.loop-global.global-index none within) c.loop-global.invariant
    (noted c.global_on.result (λ i. IsGlobalOn c.args.program.now c.args.side (get_or c.args.globals.now c.loop-global.global-index none)
    i) c.global_on.ensures c.loop-global.items c.note_some.new.self c.in_ok-note_some.ensures)

pub returns : goal.returns
returns c = ended (λ (g : GlobalItem) (i : Item). IsGlobalOn c.args.program.now c.args.side g i) c.args.globals.now c.args.items.now
    c.loop-global.items c.loop-global.global-index c.loop-global-test.false c.loop-global.invariant
