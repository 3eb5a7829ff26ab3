use Rattle.flow_facts.proofs.Same.{same_itself, same_through, seq_same, moving_same}
use Rattle.flow_relations.proofs.calls.prepend_value.Goals as goal

pub returns-clause-flow : goal.returns-clause-flow
returns-clause-flow c = same_through _ _ _ c.prepend_move.ensures.flow (seq_same _ _ _ _ (moving_same _ _ _ _ c.only_reads.ensures.set) (same_itself _) _)
