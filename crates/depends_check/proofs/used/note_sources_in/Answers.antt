use Rattle.std.proofs.Common.{rules}
use Rattle.std.proofs.lemmas.Result.{on_ok_weaker}
use Rattle.flow_bits.specs.Sets.{Has}
use Rattle.depends_check.specs.DependsCheck.{IsSource}
use Rattle.depends_check.proofs.Grown.{with_fact}
use Rattle.depends_check.proofs.used.note_sources_in.Goals as goal

pub returns : goal.returns
returns c =
    let there : Has c.args.leaves.now c.args.leaf = c.has.ensures.0 (search (rules, c.if-not-has.false)) in
    on_ok_weaker c.note_sources.result (λ a. with_fact c.args.items.now c.note_sources.new.items (Has c.args.leaves.now c.args.leaf)
    (IsSource c.args.program.now c.args.rows.now c.args.number.0 c.args.body.now c.args.leaf) there a) c.note_sources.ensures
