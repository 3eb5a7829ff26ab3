use Rattle.std.proofs.Common.{inr, ◌<◌, length, arith}
use Rattle.std.proofs.lemmas.Bool.{iff_false}
use Rattle.flow_bits.proofs.One.{added, clean_one}
use Rattle.flow_bits.proofs.flags.add_flag.Goals as goal

pub returns-clause-clean : goal.returns-clause-clean
returns-clause-clean c =
    let l : c.place_of-at.result < length c.args.words.now = omega arith in
    clean_one c.args.size c.args.a c.args.n _ _ _ c.place_of-at.ensures.place c.requires.n l (λ i. (c.with_bit.ensures i).0) c.requires.clean

pub returns-clause-set : goal.returns-clause-set
returns-clause-set c =
    let l : c.place_of-at.result < length c.args.words.now = omega arith in
    added c.args.size c.args.a c.args.n _ _ _ c.place_of-at.ensures.place c.requires.n l c.with_bit.ensures

pub returns-clause-grew : goal.returns-clause-grew
returns-clause-grew c t = (c.args.n, λ h. iff_false c.has_flag.ensures c.if-has_flag.false h, (returns-clause-set c c.args.a c.args.n).1 (inr ((λ i. c.args.a), (λ i. c.args.n))))
