use Rattle.std.proofs.Common.{◌≡◌, length}
use Rattle.row_tests.proofs.solver_tests.one_returns.Given as goal

abbrev pub invariant-loop-b : goal.invariant-loop-b
invariant-loop-b l = length l.own ≡ l.b
