use Rattle.std.proofs.Common.{◌≡◌}
use Rattle.summary_rows.specs.Layout.{AreRows}
use Rattle.summary_tests.proofs.random_tests.iterated.Given as goal

abbrev pub invariant-loop-round : goal.invariant-loop-round
invariant-loop-round l = record {
  rows : AreRows l.rows;
  layout : l.rows.layout ≡ l.layout;
}
