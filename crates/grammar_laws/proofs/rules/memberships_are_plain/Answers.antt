use Rattle.grammar_laws.proofs.Factored.{memberships}
use Rattle.grammar_laws.proofs.rules.memberships_are_plain.Goals as goal

pub returns : goal.returns
returns c = memberships
