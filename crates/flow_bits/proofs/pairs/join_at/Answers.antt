use Rattle.std.proofs.Common.{◌≡◌, ◌*◌, length, arith}
use Rattle.flow_bits.specs.Words.{words_for}
use Rattle.flow_bits.proofs.Squares.{relates_is}
use Rattle.flow_bits.proofs.pairs.join_at.Goals as goal

pub returns-clause-set : goal.returns-clause-set
returns-clause-set c =
    let e : length c.join_row.new.into ≡ c.args.size * words_for c.args.size = omega arith in
    λ x y. grind (arith, relates_is c.args.size c.join_row.new.into e x y, relates_is c.args.size c.args.into.now c.requires.tidy.count x y, c.join_row.ensures.set x y)

pub returns-clause-grew : goal.returns-clause-grew
returns-clause-grew c t =
    let e : length c.join_row.new.into ≡ c.args.size * words_for c.args.size = omega arith in
    let g = c.join_row.ensures.grew t in (
      c.args.a,
      g.0,
      λ r. g.1 ((relates_is c.args.size c.args.into.now c.requires.tidy.count c.args.a g.0).0 r),
      (relates_is c.args.size c.join_row.new.into e c.args.a g.0).1 g.2,
    )
