use Rattle.name_findings.proofs.Joined.{add_append}
use Rattle.name_findings.proofs.laws.one_by_one.Goals as goal

pub returns : goal.returns
returns c = add_append
