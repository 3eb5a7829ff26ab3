use Rattle.flow_facts.proofs.Same.{same_itself, same_through, seq_same, moving_same, changing_same}
use Rattle.flow_relations.proofs.calls.prepend_spot.Goals as goal

pub returns-then-place-clause-flow : goal.returns-then-place-clause-flow
returns-then-place-clause-flow c =
    let done = rw c.number-to.ensures at c.prepend_move.ensures.flow in
    rw c.if-place.true (same_through _ _ _ done (seq_same _ _ _ _ (moving_same _ _ _ _ c.spot_reads.ensures.set) (same_itself _) _))

pub returns-else-place-clause-flow : goal.returns-else-place-clause-flow
returns-else-place-clause-flow c =
    let done = rw c.number-to.ensures at c.prepend_change.ensures.flow in
    rw c.if-place.false (same_through _ _ _ done (seq_same _ _ _ _ (changing_same _ _ _ _ c.spot_reads.ensures.set) (same_itself _) _))
