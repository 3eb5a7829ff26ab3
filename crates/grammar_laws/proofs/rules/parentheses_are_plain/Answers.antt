use Rattle.grammar_laws.proofs.Factored.{parentheses}
use Rattle.grammar_laws.proofs.rules.parentheses_are_plain.Goals as goal

pub returns : goal.returns
returns c = parentheses
