use Rattle.std.proofs.Common.{◌≡◌}
use Rattle.ada_forms.specs.Forms.{expr_of}
use Rattle.expr_outlines.specs.Outlines.{first_token}
use Rattle.expr_outlines.proofs.looks.first_token.Given as goal

abbrev pub invariant-loop-n : goal.invariant-loop-n
invariant-loop-n l = first_token (expr_of l.units.exprs l.fn.e) ≡ first_token (expr_of l.units.exprs l.at)

abbrev pub decreases-loop-n : goal.decreases-loop-n
decreases-loop-n l = l.at.0
