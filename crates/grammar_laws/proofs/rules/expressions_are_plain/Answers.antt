use Rattle.grammar_laws.proofs.Factored.{expressions}
use Rattle.grammar_laws.proofs.rules.expressions_are_plain.Goals as goal

pub returns : goal.returns
returns c = expressions
