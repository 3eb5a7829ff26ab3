use Rattle.std.proofs.Common.{◌<◌, length, arith, IsTrue, rules}
use Rattle.graph_cycles.specs.Ranks.{StaysLow}
use Rattle.graph_cycles.proofs.Following.{edge_within, next_too}
use Rattle.graph_cycles.proofs.ranks.never_rise.Goals as goal

pub loop-node-preserved : goal.loop-node-preserved
loop-node-preserved c =
    let t : IsTrue c.none_rises.result = search rules in
    next_too (StaysLow c.args.graph.now c.args.ranks.now) c.loop-node.node c.loop-node.invariant (c.none_rises.ensures t)

pub returns : goal.returns
returns c = λ _ node next h.
    let w : node < length c.args.graph.now = edge_within c.args.graph.now node next h in
    c.loop-node.invariant node (omega arith) next h
