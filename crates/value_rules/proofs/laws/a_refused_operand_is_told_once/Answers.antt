use Rattle.value_rules.proofs.Refused as refused
use Rattle.value_rules.proofs.laws.a_refused_operand_is_told_once.Goals as goal

pub returns-clause-whole : goal.returns-clause-whole
returns-clause-whole c = refused.whole

pub returns-clause-found : goal.returns-clause-found
returns-clause-found c = refused.found
