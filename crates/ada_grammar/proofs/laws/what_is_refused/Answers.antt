use Rattle.ada_grammar.proofs.Plain.{plain_refused}
use Rattle.ada_grammar.proofs.laws.what_is_refused.Goals as goal

pub returns : goal.returns
returns c = λ part p q a. plain_refused a
