use Rattle.std.proofs.Common.{◌<◌, length, get_or}
use Rattle.std.proofs.lemmas.Option.{slice_get-get_or}
use Rattle.spark_base.specs.declared.numbers.LeafNo.{LeafNo}
use Rattle.core_form.specs.declared.program.Item.{Item}
use Rattle.depends_check.specs.DependsCheck.{IsDecidedBy}
use Rattle.depends_check.proofs.Grown.{noted}
use Rattle.depends_check.proofs.Deciding.{all_deciding}
use Rattle.used_modes.proofs.Adding.{begun, ended, one_more}
use Rattle.depends_check.proofs.used.note_deciding.Goals as goal

pub loop-from-init : goal.loop-from-init
loop-from-init c = begun (λ (from : LeafNo) (i : Item). IsDecidedBy c.args.program.now c.args.rows.now c.args.number.0 c.args.body.now
    c.args.leaf.0 from.0 i) c.row_leaves-leaves.result.now c.args.items.now

pub loop-from-preserved : goal.loop-from-preserved
loop-from-preserved c =
    let none : LeafNo = record { 0 = 0 } in
    let within : c.loop-from.from-index < length c.row_leaves-leaves.result.now = c.loop-from-test.true in
    one_more (λ (from : LeafNo) (i : Item). IsDecidedBy c.args.program.now c.args.rows.now c.args.number.0 c.args.body.now c.args.leaf.0
    from.0 i) c.row_leaves-leaves.result.now c.args.items.now c.loop-from.items c.note_some.new.self c.loop-from.from-index (get_or
    c.row_leaves-leaves.result.now c.loop-from.from-index none) (slice_get-get_or c.row_leaves-leaves.result.now
    c.loop-from.from-index none within) c.loop-from.invariant
    (noted c.decided_by.result (λ i. IsDecidedBy c.args.program.now c.args.rows.now c.args.number.0 c.args.body.now c.args.leaf.0 (get_or
    c.row_leaves-leaves.result.now c.loop-from.from-index none).0 i) c.decided_by.ensures c.loop-from.items c.note_some.new.self
    c.in_ok-note_some.ensures)

pub returns : goal.returns
returns c = all_deciding c.args.program.now c.args.rows.now c.args.number.0 c.args.body.now c.args.leaf.0 c.row_leaves-leaves.result.now
    c.row_leaves-leaves.ensures c.args.items.now c.loop-from.items (ended (λ (from : LeafNo) (i : Item). IsDecidedBy c.args.program.now
    c.args.rows.now c.args.number.0 c.args.body.now c.args.leaf.0 from.0 i) c.row_leaves-leaves.result.now c.args.items.now
    c.loop-from.items c.loop-from.from-index c.loop-from-test.false c.loop-from.invariant)
