use Rattle.std.proofs.Common.{inl, ◌<◌, length, arith}
use Rattle.flow_bits.proofs.One.{removed, clean_one}
use Rattle.flow_bits.proofs.flags.remove_flag.Goals as goal

pub returns-clause-clean : goal.returns-clause-clean
returns-clause-clean c =
    let l : c.place_of-at.result < length c.args.words.now = omega arith in
    clean_one c.args.size c.args.a c.args.n _ _ _ c.place_of-at.ensures.place c.requires.n l (λ i s. inl ((c.without_bit.ensures i).0 s).0) c.requires.clean

pub returns-clause-set : goal.returns-clause-set
returns-clause-set c =
    let l : c.place_of-at.result < length c.args.words.now = omega arith in
    removed c.args.size c.args.a c.args.n _ _ _ c.place_of-at.ensures.place c.requires.n l c.without_bit.ensures
