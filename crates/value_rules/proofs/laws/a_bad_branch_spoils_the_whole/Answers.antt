use Rattle.value_rules.proofs.Refused.{stays_bad}
use Rattle.value_rules.proofs.laws.a_bad_branch_spoils_the_whole.Goals as goal

pub returns : goal.returns
returns c = stays_bad
