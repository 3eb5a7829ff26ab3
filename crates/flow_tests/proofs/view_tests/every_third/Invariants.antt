use Rattle.std.proofs.Common.{◌≡◌, ℕ, ◌+◌, ◌*◌, length}
use Rattle.summary_rows.specs.Layout.{IsAt}
use Rattle.flow_tests.proofs.view_tests.every_third.Given as goal

abbrev pub invariant-loop-k : goal.invariant-loop-k
invariant-loop-k l = record {
  size : length l.leaves ≡ l.k;
  all : (v i : ℕ) → IsAt l.leaves v i → v ≡ 3 * i + 2;
}
