use Rattle.std.proofs.Common.{◌≡◌, ◌<◌, All, length}
use Rattle.row_tests.proofs.solver_tests.line.Given as goal

abbrev pub invariant-loop-b : goal.invariant-loop-b
invariant-loop-b l = record {
  size : length l.lists ≡ l.b;
  below : All (λ list. All (λ b. b.0 < l.bodies) list) l.lists;
}
