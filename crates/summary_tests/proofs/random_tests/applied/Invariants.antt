use Rattle.std.proofs.Common.{◌≡◌}
use Rattle.summary_rows.specs.Layout.{AreRows}
use Rattle.summary_tests.proofs.random_tests.applied.Given as goal

abbrev pub invariant-loop-b : goal.invariant-loop-b
invariant-loop-b l = record {
  rows : AreRows l.next;
  layout : l.next.layout ≡ l.rows.layout;
}
