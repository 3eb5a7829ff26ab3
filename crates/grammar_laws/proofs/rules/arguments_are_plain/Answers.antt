use Rattle.grammar_laws.proofs.Factored.{arguments}
use Rattle.grammar_laws.proofs.rules.arguments_are_plain.Goals as goal

pub returns : goal.returns
returns c = arguments
