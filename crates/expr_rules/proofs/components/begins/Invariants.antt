use Rattle.std.proofs.Common.{◌≡◌}
use Rattle.ada_forms.specs.Forms.{expr_of}
use Rattle.expr_outlines.specs.Outlines.{begins}
use Rattle.expr_rules.proofs.components.begins.Given as goal

abbrev pub invariant-loop-prefix : goal.invariant-loop-prefix
invariant-loop-prefix l =
    begins (expr_of l.units.exprs l.fn.e) ≡ begins (expr_of l.units.exprs l.at)

abbrev pub decreases-loop-prefix : goal.decreases-loop-prefix
decreases-loop-prefix l = l.at.0
