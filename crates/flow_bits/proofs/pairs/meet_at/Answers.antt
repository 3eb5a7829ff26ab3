use Rattle.std.proofs.Common.{◌≡◌, ℕ, ◌*◌, length, subst, arith}
use Rattle.flow_bits.specs.Words.{words_for, flags}
use Rattle.flow_bits.proofs.Squares.{relates_is}
use Rattle.flow_bits.proofs.pairs.meet_at.Goals as goal

pub returns-clause-set : goal.returns-clause-set
returns-clause-set c =
    let e : length c.meet_row.new.into ≡ c.args.size * words_for c.args.size = omega arith in
    let row = subst (λ (n : ℕ). flags n c.words.result.now 0 ≡ c.args.row.now) c.requires.row c.words.ensures.row in
    λ x y. grind (arith, relates_is c.args.size c.meet_row.new.into e x y, relates_is c.args.size c.args.into.now c.requires.tidy.count x y, c.meet_row.ensures.set x y, row)
