use Rattle.std.proofs.Common.{ℕ, ◌-◌, ◌<◌, ◌≤◌}
use Rattle.flow_relations.specs.Framing.{frame_size, name_at}
use Rattle.row_equations.proofs.numbers.number_of.Given as goal

abbrev pub invariant-loop-low : goal.invariant-loop-low
invariant-loop-low l = record {
  order : l.low ≤ l.high;
  end : l.high ≤ frame_size l.frame;
  below : (k : ℕ) → k < l.low → name_at l.frame k < l.leaf.0;
  above : (k : ℕ) → l.high ≤ k → k ≤ frame_size l.frame → l.leaf.0 ≤ name_at l.frame k;
}

abbrev pub decreases-loop-low : goal.decreases-loop-low
decreases-loop-low l = l.high - l.low
