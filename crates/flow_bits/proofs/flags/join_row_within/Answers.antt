use Rattle.flow_bits.proofs.Bits.{or_bits}
use Rattle.flow_bits.proofs.Changed.{joined, rows_apart}
use Rattle.flow_bits.proofs.Clean.{clean_each, each_for}
use Rattle.flow_bits.proofs.flags.join_row_within.Goals as goal

pub join_within-requires-clause-apart : goal.join_within-requires-clause-apart
join_within-requires-clause-apart c = rows_apart c.words_for.result c.args.a c.args.b c.if-a-b.true

pub returns-then-a-b-clause-clean : goal.returns-then-a-b-clause-clean
returns-then-a-b-clause-clean c =
    clean_each _ _ _ _ _ _ _ (λ x y i. (or_bits x y i).0) c.requires.clean c.requires.clean (each_for _ _ _ _ _ _ _ _ c.words_for.ensures c.join_within.ensures)

pub returns-then-a-b-clause-set : goal.returns-then-a-b-clause-set
returns-then-a-b-clause-set c = joined _ _ _ _ _ _ (each_for _ _ _ _ _ _ _ _ c.words_for.ensures c.join_within.ensures)
