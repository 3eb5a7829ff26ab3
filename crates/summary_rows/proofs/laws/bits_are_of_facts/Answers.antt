use Rattle.std.proofs.Common.{refl}
use Rattle.summary_rows.proofs.Listed.{same_part}
use Rattle.summary_rows.proofs.Places.{one_part}
use Rattle.summary_rows.proofs.laws.bits_are_of_facts.Goals as goal

pub returns : goal.returns
returns c outer x y n s t = same_part outer x y n s t (one_part outer x y n n s t refl)
