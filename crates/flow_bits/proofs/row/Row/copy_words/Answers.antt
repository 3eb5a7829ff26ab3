use Rattle.std.proofs.Common.{arith}
use Rattle.std.proofs.lemmas.Grind.{common_steps}
use Rattle.flow_bits.proofs.Changed.{flags_long}
use Rattle.flow_bits.proofs.row.Row.copy_words.Goals as goal

pub returns-clause-set : goal.returns-clause-set
returns-clause-set c = λ v. grind (arith, common_steps, c.join_row.ensures.set 0 v, c.clear.ensures.set v, flags_long c.self.inside.size c.self.inside.words.items 0)
