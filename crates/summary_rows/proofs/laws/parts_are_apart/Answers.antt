use Rattle.summary_rows.proofs.Places.{one_part}
use Rattle.summary_rows.proofs.laws.parts_are_apart.Goals as goal

pub returns : goal.returns
returns c = one_part
