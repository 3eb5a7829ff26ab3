use Rattle.std.specs.Prelude.{ℕ, IsTrue, is_some}
use Rattle.call_lists.specs.Lists.{NamesBelow}
use Rattle.claim_rows.specs.Placed.{is_in_row}
use Rattle.claim_state.specs.State.{claims_of}
use Rattle.claim_state.proofs.state.ClaimState.has_read_callees.Given as goal

abbrev pub invariant-loop-c : goal.invariant-loop-c
invariant-loop-c l = (c w : ℕ) → NamesBelow l.c-index l.callees c → IsTrue (is_in_row l.self.layout.now c w)
    → IsTrue (is_some (((claims_of l.self).workers l.worker).reads w))
