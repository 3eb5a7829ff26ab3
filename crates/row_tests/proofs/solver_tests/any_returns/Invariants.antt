use Rattle.std.proofs.Common.{ℕ}
use Rattle.summary_rows.specs.Facts.{Returning}
use Rattle.summary_rows.specs.Layout.{told}
use Rattle.call_lists.specs.Lists.{NamesBelow}
use Rattle.row_tests.proofs.solver_tests.any_returns.Given as goal

abbrev pub invariant-loop-b : goal.invariant-loop-b
invariant-loop-b l = (c : ℕ) → NamesBelow l.b-index l.list c → told l.rows (record { owner = c; part = Returning }) → ⊥
