use Rattle.std.proofs.Common.{◌≡◌, ℕ, ◌+◌, ◌<◌, ◌↔◌, All, length, []}
use Rattle.std.specs.Prelude.{slice_index_or}
use Rattle.std.specs.Vec.Iter.{into_iter_items, into_iter_len}
use Rattle.call_lists.specs.Lists.{AreLists, Names}
use Rattle.body_calls.specs.Callees.{IsRising}
use Rattle.body_calls.proofs.lists.all_once.Given as goal

abbrev pub invariant-loop-list : goal.invariant-loop-list
invariant-loop-list l = record {
  size : length l.all.items + length (into_iter_items l.list-iterator) ≡ length l.fn.lists.items;
  left : into_iter_len l.list-iterator ≡ length (into_iter_items l.list-iterator);
  rest : (k : ℕ) → slice_index_or (into_iter_items l.list-iterator) k [] ≡ slice_index_or l.fn.lists.items (length l.all.items + k) [];
  below : (n : ℕ) → AreLists n l.fn.lists.items → All (λ list. All (λ b. b.0 < n) list) l.all.items;
  rising : (c : ℕ) → c < length l.all.items → IsRising (slice_index_or l.all.items c []);
  names : (b c : ℕ) → c < length l.all.items → Names (slice_index_or l.all.items c []) b ↔ Names (slice_index_or l.fn.lists.items c []) b;
}
