use Rattle.flow_bits.proofs.Squares.{relates_is}
use Rattle.flow_bits.proofs.pairs.lacks_word.Goals as goal

pub returns : goal.returns
returns c t b l m r = c.is_empty_word.ensures t b l m ((relates_is c.args.size c.args.words.now c.requires.tidy.count c.args.a b).0 r)
