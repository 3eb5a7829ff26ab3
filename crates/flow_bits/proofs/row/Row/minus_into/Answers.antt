use Rattle.std.proofs.lemmas.Grind.{common_steps}
use Rattle.std.proofs.Common.{arith}
use Rattle.flow_bits.proofs.Changed.{seen}
use Rattle.flow_bits.proofs.row.Row.minus_into.Goals as goal

pub returns-clause-set : goal.returns-clause-set
returns-clause-set c =
    let other = seen c.self.inside.size c.other.inside.size c.self.inside.words.items c.other.inside.words.items c.as_slice.result.now c.args.self.now c.args.other.now
    c.self.view_is c.other.view_is c.as_slice.ensures.value c.requires in
    λ v. grind (arith, common_steps, c.minus_row.ensures.set 0 v, other)
