use Rattle.least_solution.proofs.Rules.{rules_applied}
use Rattle.least_solution.proofs.applied_is_least.Goals as goal

pub returns : goal.returns
returns c all owner calls rules are n f x = rules_applied all owner calls rules are n f x
