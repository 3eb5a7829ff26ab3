use Rattle.std.proofs.Common.{◌<◌, length, get_or, [], subst}
use Rattle.std.proofs.lemmas.Option.{slice_get-get_or}
use Rattle.spark_base.specs.declared.numbers.LeafNo.{LeafNo}
use Rattle.core_form.specs.declared.program.Item.{Item}
use Rattle.used_modes.specs.Added.{Adds}
use Rattle.used_modes.specs.UsedModes.{row_of}
use Rattle.used_modes.proofs.Adding.{ended, one_more}
use Rattle.global_check.specs.GlobalCheck.{IsMissing, IsUsedAs, IsUsedUnlisted}
use Rattle.global_check.proofs.Gathered.{all_used, only}
use Rattle.global_check.proofs.Whole.{unlisted_fine}
use Rattle.global_check.proofs.unlisted.unlisted_items.Goals as goal

pub loop-leaf-preserved : goal.loop-leaf-preserved
loop-leaf-preserved c =
    let none : LeafNo = record { 0 = 0 } in
    let within : c.loop-leaf.leaf-index < length c.row_leaves-leaves.result.now = c.loop-leaf-test.true in
    one_more (λ (leaf : LeafNo) (i : Item). IsUsedAs c.args.program.now (row_of c.args.rows.now c.args.number.0) c.args.body.now leaf.0 i
    × IsMissing c.args.program.now c.args.contract.now.globals i) c.row_leaves-leaves.result.now [] c.loop-leaf.items
    c.note_used.new.items c.loop-leaf.leaf-index (get_or c.row_leaves-leaves.result.now c.loop-leaf.leaf-index none)
    (slice_get-get_or c.row_leaves-leaves.result.now c.loop-leaf.leaf-index none within) c.loop-leaf.invariant
    (subst (λ gs. Adds c.loop-leaf.items c.note_used.new.items (λ i. IsUsedAs c.args.program.now (row_of c.args.rows.now c.args.number.0)
    c.args.body.now (get_or c.row_leaves-leaves.result.now c.loop-leaf.leaf-index none).0 i × IsMissing c.args.program.now gs i))
    c.as_slice-globals.ensures c.in_ok-note_used.ensures)

pub returns-clause-set : goal.returns-clause-set
returns-clause-set c = only c.loop-leaf.items (IsUsedUnlisted c.args.program.now (row_of c.args.rows.now c.args.number.0) c.args.body.now
    c.args.contract.now)
    (all_used c.args.program.now c.args.rows.now c.args.number.0 c.args.body.now c.row_leaves-leaves.result.now
    c.row_leaves-leaves.ensures [] c.loop-leaf.items (IsMissing c.args.program.now c.args.contract.now.globals)
    (ended (λ (leaf : LeafNo) (i : Item). IsUsedAs c.args.program.now (row_of c.args.rows.now c.args.number.0) c.args.body.now leaf.0 i ×
    IsMissing c.args.program.now c.args.contract.now.globals i) c.row_leaves-leaves.result.now [] c.loop-leaf.items
    c.loop-leaf.leaf-index c.loop-leaf-test.false c.loop-leaf.invariant))

pub returns-clause-fine : goal.returns-clause-fine
returns-clause-fine c = unlisted_fine c.args.program.now (row_of c.args.rows.now c.args.number.0) c.args.body.now c.requires.fine
    c.args.contract.now c.loop-leaf.items
    (all_used c.args.program.now c.args.rows.now c.args.number.0 c.args.body.now c.row_leaves-leaves.result.now
    c.row_leaves-leaves.ensures [] c.loop-leaf.items (IsMissing c.args.program.now c.args.contract.now.globals)
    (ended (λ (leaf : LeafNo) (i : Item). IsUsedAs c.args.program.now (row_of c.args.rows.now c.args.number.0) c.args.body.now leaf.0 i ×
    IsMissing c.args.program.now c.args.contract.now.globals i) c.row_leaves-leaves.result.now [] c.loop-leaf.items
    c.loop-leaf.leaf-index c.loop-leaf-test.false c.loop-leaf.invariant))
