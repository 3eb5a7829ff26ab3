use Rattle.std.proofs.Common.{IsTrue}
use Rattle.least_solution.specs.Rules.{follows}
use Rattle.least_solution.proofs.Rules.{rules_listed, rules_see}
use Rattle.least_solution.proofs.Worklist as worklist
use Rattle.least_solution.proofs.reads_are_reached.Goals as goal

pub returns : goal.returns
returns c all owner calls rules are t s read within more joined gain reached =
    worklist.reached_from owner all (λ b c. IsTrue (calls b c)) (follows rules) (rules_listed all owner calls rules are) (rules_see all owner calls rules are)
    t s read within more joined reached gain.0 gain.1 gain.2
