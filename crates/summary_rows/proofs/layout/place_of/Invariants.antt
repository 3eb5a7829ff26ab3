use Rattle.std.proofs.Common.{ℕ, ◌-◌, ◌<◌, ◌≤◌, length}
use Rattle.summary_rows.specs.Layout.{IsAt}
use Rattle.summary_rows.proofs.layout.place_of.Given as goal

abbrev pub invariant-loop-low : goal.invariant-loop-low
invariant-loop-low l = record {
  order : l.low ≤ l.high;
  end : l.high ≤ length l.outer;
  below : (u k : ℕ) → k < l.low → IsAt l.outer u k → u < l.v.0;
  above : (u k : ℕ) → l.high ≤ k → IsAt l.outer u k → l.v.0 ≤ u;
}

abbrev pub decreases-loop-low : goal.decreases-loop-low
decreases-loop-low l = l.high - l.low
