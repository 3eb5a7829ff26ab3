use Rattle.std.proofs.Common.{arith}
use Rattle.std.proofs.lemmas.Grind.{common_steps}
use Rattle.flow_bits.proofs.Squares.{same_size}
use Rattle.flow_bits.proofs.square.Square.union_into.Goals as goal

pub returns-clause-set : goal.returns-clause-set
returns-clause-set c =
    let other = same_size c.self.inside.size c.other.inside.size c.self.inside.words.items c.other.inside.words.items c.as_slice.result.now c.args.self.now c.args.other.now
    c.self.view_is c.other.view_is c.as_slice.ensures.value c.requires in
    λ x y. grind (arith, common_steps, c.union_rows.ensures.set x y, other)
