use Rattle.std.specs.Prelude.{ℕ, IsTrue}
use Rattle.call_lists.specs.Lists.{NamesBelow}
use Rattle.claim_rows.specs.Placed.{is_in_row}
use Rattle.claim_state.proofs.places.one_has_word.Given as goal

abbrev pub invariant-loop-b : goal.invariant-loop-b
invariant-loop-b l = (c : ℕ) → NamesBelow l.b-index l.list c → IsTrue (is_in_row l.layout c l.w.0) → ⊥
