use Rattle.std.proofs.Common.{ℕ, ◌≡◌, ◌<◌, ◌↔◌, ◌⊎◌, length, drop}
use Rattle.flow_bits.specs.Sets.{Relates}
use Rattle.callee_view.specs.Seen.{IsExpanded}
use Rattle.callee_view.specs.Shown.{leaf_at}
use Rattle.contract_facts.proofs.pairs.add_pairs.Given as goal

abbrev pub invariant-loop-pair : goal.invariant-loop-pair
invariant-loop-pair l = record {
  size : length l.into ≡ length l.initial.into;
  set : (i j : ℕ) → (Relates l.into i j ⊎ (((i < length l.leaves) × (j < length l.leaves)) × IsExpanded l.program (drop l.pair-index l.pairs) (leaf_at l.leaves i) (leaf_at l.leaves j)))
      ↔ (Relates l.initial.into i j ⊎ (((i < length l.leaves) × (j < length l.leaves)) × IsExpanded l.program l.pairs (leaf_at l.leaves i) (leaf_at l.leaves j)));
}
