use Rattle.std.proofs.Common.{◌≡◌}
use Rattle.ada_forms.specs.Forms.{expr_of}
use Rattle.expr_outlines.specs.Outlines.{is_plain_name}
use Rattle.expr_outlines.proofs.looks.is_plain_name.Given as goal

abbrev pub invariant-loop-prefix : goal.invariant-loop-prefix
invariant-loop-prefix l = is_plain_name (expr_of l.units.exprs l.fn.e) ≡ is_plain_name (expr_of l.units.exprs l.at)

abbrev pub decreases-loop-prefix : goal.decreases-loop-prefix
decreases-loop-prefix l = l.at.0
