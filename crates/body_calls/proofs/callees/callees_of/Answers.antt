use Rattle.call_lists.proofs.Names.{no_names}
use Rattle.body_calls.proofs.Added.{added_to_none, through}
use Rattle.body_calls.proofs.callees.callees_of.Goals as goal

pub returns-clause-names : goal.returns-clause-names
returns-clause-names c = λ k.
    rw c.at.ensures (through (c.once.ensures.names k) (added_to_none (no_names k)
    (rw c.new-callees.ensures at c.in_ok-add_callees.ensures.names k)))
