use Rattle.grammar_laws.proofs.Factored.{ranges}
use Rattle.grammar_laws.proofs.rules.ranges_are_plain.Goals as goal

pub returns : goal.returns
returns c = ranges
