use Rattle.std.proofs.Common.{◌≡◌, ◌<◌, length, get_or, subst}
use Rattle.std.proofs.lemmas.Option.{slice_get-get_or}
use Rattle.core_form.specs.declared.program.Item.{Item}
use Rattle.depends_check.specs.DependsCheck.{IsResult}
use Rattle.depends_check.proofs.Grown.{noted}
use Rattle.used_modes.specs.Added.{Adds, SomeOf}
use Rattle.used_modes.proofs.Adding.{begun, ended, one_more}
use Rattle.depends_check.proofs.sides.note_results.Goals as goal

pub loop-item-init : goal.loop-item-init
loop-item-init c = begun (λ (j i : Item). IsResult c.args.program.now c.args.body.0 c.args.side j × (i ≡ j)) c.as_slice-all.result.now
    c.args.items.now

pub loop-item-preserved : goal.loop-item-preserved
loop-item-preserved c =
    let none : Item = Item.Whole (record { 0 = 0 }) in
    let within : c.loop-item.item-index < length c.as_slice-all.result.now = c.loop-item-test.true in
    one_more (λ (j i : Item). IsResult c.args.program.now c.args.body.0 c.args.side j × (i ≡ j)) c.as_slice-all.result.now
    c.args.items.now c.loop-item.items c.note_some.new.self c.loop-item.item-index (get_or c.as_slice-all.result.now
    c.loop-item.item-index none) (slice_get-get_or c.as_slice-all.result.now c.loop-item.item-index none within) c.loop-item.invariant
    (noted c.result_on.result (λ i. IsResult c.args.program.now c.args.body.0 c.args.side (get_or c.as_slice-all.result.now
    c.loop-item.item-index none) × (i ≡ (get_or c.as_slice-all.result.now c.loop-item.item-index none))) c.result_on.ensures
    c.loop-item.items c.note_some.new.self c.in_ok-note_some.ensures)

pub returns : goal.returns
returns c = subst (λ xs. Adds c.args.items.now c.loop-item.items (λ i. SomeOf (λ j. IsResult c.args.program.now c.args.body.0 c.args.side
    j × (i ≡ j)) xs)) c.as_slice-all.ensures (ended (λ (j i : Item). IsResult c.args.program.now c.args.body.0 c.args.side j × (i ≡ j))
    c.as_slice-all.result.now c.args.items.now c.loop-item.items c.loop-item.item-index c.loop-item-test.false c.loop-item.invariant)
