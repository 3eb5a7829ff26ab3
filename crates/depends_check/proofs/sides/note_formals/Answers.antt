use Rattle.std.proofs.Common.{◌<◌, length, get_or}
use Rattle.std.proofs.lemmas.Option.{slice_get-get_or}
use Rattle.core_form.specs.declared.program.Formal.{Formal}
use Rattle.core_form.specs.declared.program.Item.{Item}
use Rattle.core_form.specs.declared.program.ParamMode.TheVariants as modes
use Rattle.depends_check.specs.DependsCheck.{IsFormalOn}
use Rattle.depends_check.proofs.Grown.{noted}
use Rattle.used_modes.proofs.Adding.{begun, ended, one_more}
use Rattle.depends_check.proofs.sides.note_formals.Goals as goal

pub loop-formal-init : goal.loop-formal-init
loop-formal-init c = begun (λ (f : Formal) (i : Item). IsFormalOn c.args.side f i) c.args.formals.now c.args.items.now

pub loop-formal-preserved : goal.loop-formal-preserved
loop-formal-preserved c =
    let none : Formal = record { var = record { 0 = 0 }; mode = modes.In } in
    let within : c.loop-formal.formal-index < length c.args.formals.now = c.loop-formal-test.true in
    one_more (λ (f : Formal) (i : Item). IsFormalOn c.args.side f i) c.args.formals.now c.args.items.now c.loop-formal.items
    c.note_some.new.self c.loop-formal.formal-index (get_or c.args.formals.now c.loop-formal.formal-index none) (slice_get-get_or
    c.args.formals.now c.loop-formal.formal-index none within) c.loop-formal.invariant
    (noted c.formal_on.result (λ i. IsFormalOn c.args.side (get_or c.args.formals.now c.loop-formal.formal-index none) i)
    c.formal_on.ensures c.loop-formal.items c.note_some.new.self c.in_ok-note_some.ensures)

pub returns : goal.returns
returns c = ended (λ (f : Formal) (i : Item). IsFormalOn c.args.side f i) c.args.formals.now c.args.items.now c.loop-formal.items
    c.loop-formal.formal-index c.loop-formal-test.false c.loop-formal.invariant
