use Rattle.summary_rows.proofs.Joined.{one_row}
use Rattle.summary_rows.proofs.laws.rows_are_apart.Goals as goal

pub returns : goal.returns
returns c = one_row
