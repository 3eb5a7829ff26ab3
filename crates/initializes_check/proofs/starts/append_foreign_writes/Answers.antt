use Rattle.std.proofs.Common.{ℕ, ◌≤◌, length, arith}
use Rattle.std.proofs.lemmas.Option.{slice_get_within}
use Rattle.used_modes.specs.UsedModes.{row_of}
use Rattle.spark_messages.specs.declared.messages.Message.{Message}
use Rattle.initializes_check.specs.InitializesCheck.{IsForeignWrite}
use Rattle.initializes_check.proofs.Counted.{all_below, one_below}
use Rattle.initializes_check.proofs.starts.append_foreign_writes.Goals as goal

pub loop-leaf-preserved : goal.loop-leaf-preserved
loop-leaf-preserved c = one_below (λ (n : ℕ) (m : Message). IsForeignWrite c.args.program.now (row_of c.args.rows.now c.args.number.0) c.args.body.now n m)
    c.args.list.now c.loop-leaf.list c.append_foreign_write.new.list c.loop-leaf.leaf c.loop-leaf.invariant c.in_ok-append_foreign_write.ensures

pub returns : goal.returns
returns c =
    let l : length c.args.program.now.leaves ≤ c.loop-leaf.leaf = omega (arith, c.len-count.ensures, c.loop-leaf-test.false) in
    all_below (λ (n : ℕ) (m : Message). IsForeignWrite c.args.program.now (row_of c.args.rows.now c.args.number.0) c.args.body.now n m)
    c.args.list.now c.loop-leaf.list c.loop-leaf.leaf (length c.args.program.now.leaves) l
    (λ n m t. slice_get_within c.args.program.now.leaves n t.is_leaf t.has_leaf) c.loop-leaf.invariant
