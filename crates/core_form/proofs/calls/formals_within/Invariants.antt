use Rattle.std.proofs.Common.{◌↔◌, drop}
use Rattle.core_form.specs.Calls.{AreFormalsWithin}
use Rattle.core_form.specs.Code.{actuals_at, expr_of}
use Rattle.core_form.proofs.calls.formals_within.Given as goal

abbrev pub invariant-loop-actual : goal.invariant-loop-actual
invariant-loop-actual l =
    AreFormalsWithin l.count (actuals_at (expr_of l.program.exprs) (drop l.actual-index l.list))
    ↔ AreFormalsWithin l.count (actuals_at (expr_of l.program.exprs) l.list)
