use Rattle.std.proofs.Common.{◌<◌, length, get_or}
use Rattle.std.proofs.lemmas.Option.{slice_get-get_or}
use Rattle.spark_base.specs.declared.numbers.LeafNo.{LeafNo}
use Rattle.core_form.specs.declared.program.Item.{Item}
use Rattle.used_modes.specs.UsedModes.{row_of}
use Rattle.used_modes.proofs.Adding.{ended, one_more}
use Rattle.global_check.specs.GlobalCheck.{IsWrittenAs}
use Rattle.global_check.proofs.Gathered.{all_written}
use Rattle.global_check.proofs.functions.note_all_written.Goals as goal

pub loop-leaf-preserved : goal.loop-leaf-preserved
loop-leaf-preserved c =
    let none : LeafNo = record { 0 = 0 } in
    let within : c.loop-leaf.leaf-index < length c.row_leaves-leaves.result.now = c.loop-leaf-test.true in
    one_more (λ (leaf : LeafNo) (i : Item). IsWrittenAs c.args.program.now (row_of c.args.rows.now c.args.number.0) c.args.number.0
    c.args.body.now leaf.0 i) c.row_leaves-leaves.result.now c.args.items.now c.loop-leaf.items c.note_written.new.items
    c.loop-leaf.leaf-index (get_or c.row_leaves-leaves.result.now c.loop-leaf.leaf-index none)
    (slice_get-get_or c.row_leaves-leaves.result.now c.loop-leaf.leaf-index none within) c.loop-leaf.invariant c.in_ok-note_written.ensures

pub returns : goal.returns
returns c = all_written c.args.program.now c.args.rows.now c.args.number.0 c.args.body.now c.row_leaves-leaves.result.now
    c.row_leaves-leaves.ensures c.args.items.now c.loop-leaf.items
    (ended (λ (leaf : LeafNo) (i : Item). IsWrittenAs c.args.program.now (row_of c.args.rows.now c.args.number.0) c.args.number.0
    c.args.body.now leaf.0 i) c.row_leaves-leaves.result.now c.args.items.now c.loop-leaf.items c.loop-leaf.leaf-index
    c.loop-leaf-test.false c.loop-leaf.invariant)
