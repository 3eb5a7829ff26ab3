use Rattle.std.proofs.lemmas.Result.{IfOk-weaker}
use Rattle.body_calls.proofs.Added.{flipped, through}
use Rattle.body_calls.proofs.lists.callers.Goals as goal

pub returns-clause-names : goal.returns-clause-names
returns-clause-names c = IfOk-weaker c.all_once.result _ _ (λ v h b k.
    through (h b k) (through (flipped (rw c.as_slice.ensures.value at c.in_ok-callers_of.ensures.names b k))
    (c.in_ok-callees.ensures.names b k))) c.all_once.ensures.names
