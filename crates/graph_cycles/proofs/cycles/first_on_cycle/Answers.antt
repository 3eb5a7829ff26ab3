use Rattle.std.proofs.Common.{◌<◌, length, sym, ◌∙◌, arith}
use Rattle.std.proofs.lemmas.Bool.{false≢true}
use Rattle.graph_cycles.specs.Cycles.{IsOnCycle}
use Rattle.graph_cycles.proofs.Following.{next_too}
use Rattle.graph_cycles.proofs.Walks.{cycle_within}
use Rattle.graph_cycles.proofs.cycles.first_on_cycle.Goals as goal

pub loop-node-preserved : goal.loop-node-preserved
loop-node-preserved c = next_too (λ k. IsOnCycle c.args.graph.now k → ⊥) c.loop-node.node c.loop-node.invariant
    (λ h. false≢true (sym c.if-branch.false ∙ c.in_ok-is_on_cycle.ensures.1 h))

pub returns-clause-none : goal.returns-clause-none
returns-clause-none c = λ k h.
    let w : k < length c.args.graph.now = cycle_within c.args.graph.now k h in
    c.loop-node.invariant k (omega arith) h
