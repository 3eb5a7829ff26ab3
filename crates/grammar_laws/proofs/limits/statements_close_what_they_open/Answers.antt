use Rattle.grammar_laws.proofs.Stated.{statements_closed}
use Rattle.grammar_laws.proofs.limits.statements_close_what_they_open.Goals as goal

pub returns : goal.returns
returns c = statements_closed
