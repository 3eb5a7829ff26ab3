use Rattle.summary_rows.specs.Layout.{told}
use Rattle.row_equations.proofs.Following as laws
use Rattle.row_equations.proofs.laws.facts_stand.Goals as goal

pub returns : goal.returns
returns c p rows f h = laws.facts_stand p rows.layout (told rows) f h
