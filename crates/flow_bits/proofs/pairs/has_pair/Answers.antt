use Rattle.flow_bits.proofs.Squares.{relates_is}
use Rattle.flow_bits.proofs.pairs.has_pair.Goals as goal

pub returns : goal.returns
returns c =
    let told = relates_is c.args.size c.args.words.now c.requires.tidy.count c.args.a c.args.b in
    (λ t. told.1 (c.has_flag.ensures.0 t), λ r. c.has_flag.ensures.1 (told.0 r))
