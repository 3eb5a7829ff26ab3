use Rattle.std.proofs.Common.{◌≡◌, ◌*◌, length, arith}
use Rattle.flow_bits.specs.Words.{words_for}
use Rattle.flow_bits.proofs.Squares.{relates_is}
use Rattle.flow_bits.proofs.pairs.add_pair.Goals as goal

pub returns-clause-set : goal.returns-clause-set
returns-clause-set c =
    let e : length c.add_flag.new.words ≡ c.args.size * words_for c.args.size = omega arith in
    λ x y. grind (arith, relates_is c.args.size c.add_flag.new.words e x y, relates_is c.args.size c.args.words.now c.requires.tidy.count x y, c.add_flag.ensures.set x y)

pub returns-clause-grew : goal.returns-clause-grew
returns-clause-grew c t =
    let e : length c.add_flag.new.words ≡ c.args.size * words_for c.args.size = omega arith in
    let g = c.add_flag.ensures.grew t in (
      c.args.a,
      g.0,
      λ r. g.1 ((relates_is c.args.size c.args.words.now c.requires.tidy.count c.args.a g.0).0 r),
      (relates_is c.args.size c.add_flag.new.words e c.args.a g.0).1 g.2,
    )
