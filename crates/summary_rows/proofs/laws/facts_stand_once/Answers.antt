use Rattle.summary_rows.proofs.Places.{one_bit}
use Rattle.summary_rows.proofs.laws.facts_stand_once.Goals as goal

pub returns : goal.returns
returns c = one_bit
