use Rattle.std.proofs.Common.{IsTrue}
use Rattle.least_solution.specs.Rules.{follows}
use Rattle.least_solution.proofs.Rules.{rules_listed, rules_see}
use Rattle.least_solution.proofs.Worklist as worklist
use Rattle.least_solution.proofs.releases_are_met.Goals as goal

pub returns : goal.returns
returns c all owner calls rules are t read b seen joined =
    worklist.met_released owner all (λ b c. IsTrue (calls b c)) (follows rules) (rules_listed all owner calls rules are) (rules_see all owner calls rules are)
    t read b seen joined
