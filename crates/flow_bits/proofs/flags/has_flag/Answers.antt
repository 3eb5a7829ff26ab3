use Rattle.flow_bits.proofs.One.{told_at}
use Rattle.flow_bits.proofs.flags.has_flag.Goals as goal

pub returns : goal.returns
returns c =
    let told = told_at c.args.size c.args.a c.args.n c.place_of.result c.args.words.now c.place_of.ensures.place c.requires.n in
    (λ t. told.1 (c.has_bit.ensures.0 t), λ h. c.has_bit.ensures.1 (told.0 h))
