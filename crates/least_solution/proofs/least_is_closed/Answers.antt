use Rattle.std.proofs.Common.{suc, length}
use Rattle.least_solution.proofs.Rules.{rules_applied}
use Rattle.least_solution.proofs.least_is_closed.Goals as goal

pub returns : goal.returns
returns c all owner calls rules are f x = rules_applied all owner calls rules are (suc (length all)) f x
