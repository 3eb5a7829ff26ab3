use Rattle.std.proofs.Common.{◌↔◌, drop}
use Rattle.core_form.specs.Code.{actuals_at, expr_of}
use Rattle.core_form.specs.Fine.{ActualsIn, IsSeenIn}
use Rattle.core_form.proofs.names.actuals_in.Given as goal

abbrev pub invariant-loop-actual : goal.invariant-loop-actual
invariant-loop-actual l =
    ActualsIn (IsSeenIn l.program l.body) (actuals_at (expr_of l.program.exprs) (drop l.actual-index l.list))
    ↔ ActualsIn (IsSeenIn l.program l.body) (actuals_at (expr_of l.program.exprs) l.list)
