use Rattle.std.proofs.lemmas.Result.{on_ok_weaker}
use Rattle.flow_bits.specs.Sets.{Has}
use Rattle.initializes_check.specs.InitializesCheck.{reads_outside}
use Rattle.initializes_check.proofs.Joined.{starts_same}
use Rattle.initializes_check.proofs.starts.append_start.Goals as goal

pub returns : goal.returns
returns c = on_ok_weaker c.append_unset_leaves.result
    (λ a. starts_same c.args.program.now (Has c.in_ok-reads.reads) (reads_outside c.args.program.now c.args.rows.now c.args.number.0) (Has
    c.args.unset.now) c.args.body.now c.args.name.now c.in_ok-reads.ensures.set c.args.list.now c.append_unset_leaves.new.list a)
    c.append_unset_leaves.ensures
