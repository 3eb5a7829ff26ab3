use Rattle.grammar_laws.proofs.Counted.{operators_counted}
use Rattle.grammar_laws.proofs.limits.operators_are_counted.Goals as goal

pub returns : goal.returns
returns c = operators_counted
