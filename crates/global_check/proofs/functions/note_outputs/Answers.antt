use Rattle.std.proofs.Common.{◌≡◌, ◌<◌, length, get_or}
use Rattle.std.proofs.lemmas.Option.{slice_get-get_or}
use Rattle.std.proofs.Common.{Some}
use Rattle.std.specs.Prelude.{IsTrue, slice_get}
use Rattle.core_form.specs.declared.contract.GlobalItem.{GlobalItem}
use Rattle.core_form.specs.declared.contract.Mode.TheVariants as modes
use Rattle.core_form.specs.declared.program.Item.{Item}
use Rattle.global_check.specs.declared.listing.Listing.{Listing}
use Rattle.used_modes.proofs.Adding.{begun, ended, one_more}
use Rattle.global_check.specs.GlobalCheck.{passes}
use Rattle.global_check.proofs.functions.note_outputs.Goals as goal

pub loop-global-init : goal.loop-global-init
loop-global-init c = begun (λ (g : GlobalItem) (i : Item). IsTrue (passes Listing.AsOutput g.mode) × (slice_get c.args.program.now.items
    g.item.0 ≡ Some i)) c.args.globals.now c.args.items.now

pub loop-global-preserved : goal.loop-global-preserved
loop-global-preserved c =
    let none : GlobalItem = record {
      item = record { 0 = 0 };
      mode = modes.Input;
      place = record {
        file = record { 0 = 0 };
        «from» =
            record { line = 0; col = 0 };
        to = record { line = 0; col = 0 };
      };
    } in
    let within : c.loop-global.global-index < length c.args.globals.now = c.loop-global-test.true in
    one_more (λ (g : GlobalItem) (i : Item). IsTrue (passes Listing.AsOutput g.mode) × (slice_get c.args.program.now.items g.item.0 ≡
    Some i)) c.args.globals.now c.args.items.now c.loop-global.items c.note_output.new.items c.loop-global.global-index (get_or
    c.args.globals.now c.loop-global.global-index none)
    (slice_get-get_or c.args.globals.now c.loop-global.global-index none within) c.loop-global.invariant c.in_ok-note_output.ensures

pub returns : goal.returns
returns c = ended (λ (g : GlobalItem) (i : Item). IsTrue (passes Listing.AsOutput g.mode) × (slice_get c.args.program.now.items g.item.0
    ≡ Some i)) c.args.globals.now c.args.items.now c.loop-global.items c.loop-global.global-index c.loop-global-test.false
    c.loop-global.invariant
