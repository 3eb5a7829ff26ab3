use Rattle.std.proofs.Common.{ℕ, ◌≤◌, length, arith}
use Rattle.std.proofs.lemmas.Option.{slice_get_within}
use Rattle.flow_bits.specs.Sets.{Has}
use Rattle.spark_messages.specs.declared.messages.Message.{Message}
use Rattle.initializes_check.specs.InitializesCheck.{IsUnsetThen}
use Rattle.initializes_check.proofs.Counted.{all_below, one_below}
use Rattle.initializes_check.proofs.starts.append_unset_leaves.Goals as goal

pub loop-leaf-preserved : goal.loop-leaf-preserved
loop-leaf-preserved c = one_below (λ (n : ℕ) (m : Message). IsUnsetThen c.args.program.now (Has c.args.reads.now) (Has c.args.unset.now) c.args.body.now c.args.name.now n m)
    c.args.list.now c.loop-leaf.list c.append_unset_leaf.new.list c.loop-leaf.leaf c.loop-leaf.invariant c.in_ok-append_unset_leaf.ensures

pub returns : goal.returns
returns c =
    let l : length c.args.program.now.leaves ≤ c.loop-leaf.leaf = omega (arith, c.len-count.ensures, c.loop-leaf-test.false) in
    all_below (λ (n : ℕ) (m : Message). IsUnsetThen c.args.program.now (Has c.args.reads.now) (Has c.args.unset.now) c.args.body.now c.args.name.now n m)
    c.args.list.now c.loop-leaf.list c.loop-leaf.leaf (length c.args.program.now.leaves) l
    (λ n m t. slice_get_within c.args.program.now.leaves n t.is_leaf t.has_leaf) c.loop-leaf.invariant
