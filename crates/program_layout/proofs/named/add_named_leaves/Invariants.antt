use Rattle.std.proofs.Common.{◌≡◌, ℕ, ◌<◌, ◌⊎◌, ◌↔◌, All, false, length, []}
use Rattle.std.specs.Prelude.{slice_index_or, IsTrue}
use Rattle.flow_bits.specs.Sets.{Has}
use Rattle.call_lists.specs.Lists.{Names}
use Rattle.program_layout.proofs.named.add_named_leaves.Given as goal

abbrev pub invariant-loop-leaf : goal.invariant-loop-leaf
invariant-loop-leaf l = record {
  size : length l.holders.items ≡ length l.initial.holders.items;
  below : (n : ℕ) → l.body.0 < n → All (λ list. All (λ b. b.0 < n) list) l.initial.holders.items → All (λ list. All (λ b. b.0 < n) list)
      l.holders.items;
  names : (v b : ℕ) → Names (slice_index_or l.holders.items v []) b
      ↔ (Names (slice_index_or l.initial.holders.items v []) b
      ⊎ ((v < l.leaf) × ((b ≡ l.body.0) × (IsTrue (slice_index_or l.library v false) × Has l.set v))));
}
