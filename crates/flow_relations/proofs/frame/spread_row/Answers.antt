use Rattle.std.proofs.Common.{arith}
use Rattle.flow_relations.proofs.Framings.{name_most}
use Rattle.flow_relations.proofs.frame.spread_row.Goals as goal

pub spread_one-requires-clause-leaf : goal.spread_one-requires-clause-leaf
spread_one-requires-clause-leaf c =
    let l = name_most c.args.frame.now c.requires.frame c.loop-number.number (omega arith) in
    omega (arith, c.loop-number.invariant.size)
