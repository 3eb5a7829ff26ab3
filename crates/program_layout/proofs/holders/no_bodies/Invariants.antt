use Rattle.std.proofs.Common.{◌≡◌, ℕ, ◌<◌, All, length, []}
use Rattle.std.specs.Prelude.{slice_index_or}
use Rattle.call_lists.specs.Lists.{Names}
use Rattle.program_layout.proofs.holders.no_bodies.Given as goal

abbrev pub invariant-loop-k : goal.invariant-loop-k
invariant-loop-k l = record {
  size : length l.lists.items ≡ l._k;
  below : (n : ℕ) → All (λ list. All (λ b. b.0 < n) list) l.lists.items;
  empty : (k b : ℕ) → Names (slice_index_or l.lists.items k []) b → ⊥;
}
