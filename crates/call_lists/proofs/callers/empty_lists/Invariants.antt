use Rattle.std.proofs.Common.{◌≡◌, ℕ, ◌<◌, All, length, []}
use Rattle.std.specs.Prelude.{slice_index_or}
use Rattle.call_lists.specs.Lists.{Names}
use Rattle.call_lists.proofs.callers.empty_lists.Given as goal

abbrev pub invariant-loop-b : goal.invariant-loop-b
invariant-loop-b l = record {
  size : length l.lists.items ≡ l._b;
  below : (n : ℕ) → All (λ list. All (λ b. b.0 < n) list) l.lists.items;
  empty : (c b : ℕ) → Names (slice_index_or l.lists.items c []) b → ⊥;
}
