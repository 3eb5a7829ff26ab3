use Rattle.std.proofs.Common.{◌≡◌, ◌*◌, length, arith}
use Rattle.flow_bits.specs.Words.{words_for}
use Rattle.flow_bits.proofs.Squares.{relates_is}
use Rattle.flow_bits.proofs.pairs.join_within_at.Goals as goal

pub returns-clause-set : goal.returns-clause-set
returns-clause-set c =
    let e : length c.join_row_within.new.words ≡ c.args.size * words_for c.args.size = omega arith in
    λ x y. grind (
      arith,
      relates_is c.args.size c.join_row_within.new.words e x y,
      relates_is c.args.size c.args.words.now c.requires.tidy.count x y,
      relates_is c.args.size c.args.words.now c.requires.tidy.count c.args.b y,
      c.join_row_within.ensures.set x y,
    )
