use Rattle.unit_names.proofs.Noting.{empty_has}
use Rattle.unit_names.proofs.seen.Seen.new.Goals as goal

pub returns : goal.returns
returns c = record { specs = λ i. empty_has _ i c.new.ensures.empty; bodies = λ i. empty_has _ i c.new-2.ensures.empty; mains = λ i. empty_has _ i c.new-3.ensures.empty }
