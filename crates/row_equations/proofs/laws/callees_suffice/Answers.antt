use Rattle.std.proofs.Common.{subst}
use Rattle.summary_rows.specs.declared.layout.Layout.{Layout}
use Rattle.summary_rows.specs.Layout.{told}
use Rattle.row_equations.specs.Follow.{follows}
use Rattle.row_equations.proofs.Following as laws
use Rattle.row_equations.proofs.laws.callees_suffice.Goals as goal

pub returns : goal.returns
returns c p one other e f h y = subst (λ (l : Layout). follows p l (told other) f) e (laws.sees p one.layout (told one) (told other) f h y)
