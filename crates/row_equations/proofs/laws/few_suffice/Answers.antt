use Rattle.summary_rows.specs.Layout.{told}
use Rattle.row_equations.proofs.Following as laws
use Rattle.row_equations.proofs.laws.few_suffice.Goals as goal

pub returns : goal.returns
returns c p rows f h = let s = laws.is_finite p rows.layout (told rows) f h in (s.0, (s.1, s.2))
