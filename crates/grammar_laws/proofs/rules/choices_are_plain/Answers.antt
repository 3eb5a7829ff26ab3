use Rattle.grammar_laws.proofs.Factored.{choices}
use Rattle.grammar_laws.proofs.rules.choices_are_plain.Goals as goal

pub returns : goal.returns
returns c = choices
