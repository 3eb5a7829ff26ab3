use Rattle.std.specs.Prelude.{◌≡◌, ℕ, ◌<◌, ◌↔◌, All, length, [], slice_index_or}
use Rattle.call_lists.specs.Lists.{Names}
use Rattle.body_calls.specs.Callees.{Calls}
use Rattle.claim_state.proofs.state.all_callees.Given as goal

abbrev pub invariant-loop-b : goal.invariant-loop-b
invariant-loop-b l = record {
  size : length l.lists.items ≡ l.b;
  below : All (λ list. All (λ c. c.0 < length l.program.bodies) list) l.lists.items;
  names : (b c : ℕ) → b < l.b → Names (slice_index_or l.lists.items b []) c ↔ Calls l.program b c;
}
