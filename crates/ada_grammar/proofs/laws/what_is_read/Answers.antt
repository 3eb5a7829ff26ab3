use Rattle.ada_grammar.proofs.Plain.{plain_read}
use Rattle.ada_grammar.proofs.laws.what_is_read.Goals as goal

pub returns : goal.returns
returns c = λ part p q x a. plain_read a
