use Rattle.std.proofs.Common.{length}
use Rattle.least_solution.specs.Least.{Passes}
use Rattle.least_solution.specs.Rules.{follows}
use Rattle.least_solution.proofs.Rules.{rules_grow}
use Rattle.least_solution.proofs.Applied.{applied_within}
use Rattle.least_solution.proofs.least_is_least.Goals as goal

pub returns : goal.returns
returns c all rules t closed f x = applied_within (follows rules) (rules_grow rules) (Passes t) closed (length all) f x
