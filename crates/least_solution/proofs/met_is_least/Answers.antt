use Rattle.std.proofs.Common.{IsTrue}
use Rattle.least_solution.specs.Rules.{follows}
use Rattle.least_solution.proofs.Rules.{rules_listed, rules_see}
use Rattle.least_solution.proofs.Worklist as worklist
use Rattle.least_solution.proofs.met_is_least.Goals as goal

pub returns : goal.returns
returns c all owner calls rules are t reached met =
    worklist.met_is_least owner all (λ b c. IsTrue (calls b c)) (follows rules) (rules_listed all owner calls rules are) (rules_see all owner calls rules are)
    t reached met
