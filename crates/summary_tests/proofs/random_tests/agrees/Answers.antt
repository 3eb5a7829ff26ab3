use Rattle.body_summaries.proofs.Laid.{laid}
use Rattle.summary_tests.proofs.random_tests.agrees.Goals as goal

pub solve_alone-requires-clause-layout : goal.solve_alone-requires-clause-layout
solve_alone-requires-clause-layout c = laid c.args.program.now c.in_ok-layout.layout c.in_ok-layout.ensures.layout

pub iterated-requires-clause-layout : goal.iterated-requires-clause-layout
iterated-requires-clause-layout c = laid c.args.program.now c.in_ok-layout.layout c.in_ok-layout.ensures.layout
