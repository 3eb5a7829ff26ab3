use Rattle.ada_lexer.proofs.CutLaws.{lexed_refused, lexed_beyond}
use Rattle.ada_lexer.proofs.laws.refusals_behind_pieces.Goals as goal

pub returns-clause-within : goal.returns-clause-within
returns-clause-within c = lexed_refused

pub returns-clause-beyond : goal.returns-clause-beyond
returns-clause-beyond c = lexed_beyond
