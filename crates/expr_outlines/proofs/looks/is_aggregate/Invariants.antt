use Rattle.std.proofs.Common.{◌≡◌}
use Rattle.ada_forms.specs.Forms.{expr_of}
use Rattle.expr_outlines.specs.Outlines.{is_aggregate}
use Rattle.expr_outlines.proofs.looks.is_aggregate.Given as goal

abbrev pub invariant-loop-inner : goal.invariant-loop-inner
invariant-loop-inner l = is_aggregate (expr_of l.units.exprs l.fn.e) ≡ is_aggregate (expr_of l.units.exprs l.at)

abbrev pub decreases-loop-inner : goal.decreases-loop-inner
decreases-loop-inner l = l.at.0
