use Rattle.body_summaries.proofs.Laid.{laid}
use Rattle.body_summaries.proofs.summaries.summaries_of.Goals as goal

pub solve_alone-requires-clause-layout : goal.solve_alone-requires-clause-layout
solve_alone-requires-clause-layout c = laid c.args.program.now c.in_ok-layout.layout c.in_ok-layout.ensures.layout
