use Rattle.std.proofs.Common.{arith}
use Rattle.flow_bits.proofs.Squares.{relates_is}
use Rattle.flow_bits.proofs.pairs.copy_at.Goals as goal

pub returns-clause-set : goal.returns-clause-set
returns-clause-set c = λ y. grind (arith, relates_is c.args.size c.args.words.now c.requires.tidy.count c.args.a y, c.copy_words.ensures.set y, c.requires.into)
