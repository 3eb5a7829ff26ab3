use Rattle.grammar_laws.proofs.Counted.{outermost_counted}
use Rattle.grammar_laws.proofs.limits.outermost_operators_are_counted.Goals as goal

pub returns : goal.returns
returns c = outermost_counted
