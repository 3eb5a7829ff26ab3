use Rattle.std.proofs.Common.{ℕ, ◌<◌}
use Rattle.graph_cycles.specs.Cycles.{IsOnCycle}
use Rattle.graph_cycles.proofs.cycles.first_on_cycle.Given as goal

abbrev pub invariant-loop-node : goal.invariant-loop-node
invariant-loop-node l = (k : ℕ) → k < l.node → IsOnCycle l.graph k → ⊥
