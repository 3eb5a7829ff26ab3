use Rattle.std.proofs.Common.{length}
use Rattle.least_solution.proofs.Applied.{applied_within}
use Rattle.summary_rows.specs.Layout.{facts, told}
use Rattle.row_equations.specs.Follow.{follows}
use Rattle.row_equations.proofs.Following as laws
use Rattle.row_equations.proofs.laws.least_is_least.Goals as goal

pub returns : goal.returns
returns c p rows closed f h = applied_within (follows p rows.layout) (laws.grows p rows.layout) (told rows) closed (length (facts rows.layout)) f h
