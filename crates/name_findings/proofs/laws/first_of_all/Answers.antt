use Rattle.name_findings.proofs.Firsts.{answered}
use Rattle.name_findings.proofs.laws.first_of_all.Goals as goal

pub returns : goal.returns
returns c = answered
