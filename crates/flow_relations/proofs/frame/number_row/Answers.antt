use Rattle.std.proofs.Common.{arith}
use Rattle.flow_relations.proofs.Framings.{name_most}
use Rattle.flow_relations.proofs.frame.number_row.Goals as goal

pub number_one-requires-clause-leaf : goal.number_one-requires-clause-leaf
number_one-requires-clause-leaf c =
    let l = name_most c.args.frame.now c.requires.frame c.loop-number.number (omega arith) in
    omega (arith, c.requires.from)
