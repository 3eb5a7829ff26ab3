use Rattle.std.proofs.Common.{ℕ, ◌<◌}
use Rattle.graph_cycles.specs.Ranks.{StaysLow}
use Rattle.graph_cycles.proofs.ranks.never_rise.Given as goal

abbrev pub invariant-loop-node : goal.invariant-loop-node
invariant-loop-node l = (i : ℕ) → i < l.node → StaysLow l.graph l.ranks i
