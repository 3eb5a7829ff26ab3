use Rattle.std.proofs.Common.{◌∙◌}
use Rattle.body_summaries.proofs.Words.{are_rows}
use Rattle.summary_tests.proofs.random_tests.iterated.Goals as goal

pub applied-requires-clause-rows : goal.applied-requires-clause-rows
applied-requires-clause-rows c = are_rows c.args.program.now c.args.layout.now c.requires.layout c.loop-round.rows
    c.loop-round.invariant.layout c.loop-round.invariant.rows

pub loop-round-preserved : goal.loop-round-preserved
loop-round-preserved c = record {
  rows = c.in_ok-next.ensures.rows;
  layout = c.in_ok-next.ensures.layout ∙ c.loop-round.invariant.layout;
}
