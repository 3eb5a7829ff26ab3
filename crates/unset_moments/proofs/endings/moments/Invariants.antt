use Rattle.std.proofs.Common.{◌≡◌, ◌+◌, ◌≤◌, ℕ, [], All, length}
use Rattle.std.specs.Prelude.{slice_index_or}
use Rattle.flow_bits.specs.Sets.{Tells}
use Rattle.unset_moments.specs.Moments.{loose_before}
use Rattle.unset_moments.proofs.endings.moments.Given as goal

abbrev pub invariant-loop-n : goal.invariant-loop-n
invariant-loop-n l = record {
  count : length l.rows.items ≡ l.n + 1;
  sizes : All (λ row. length row ≡ length l.program.leaves) l.rows.items;
  sets : (k : ℕ) → k ≤ l.n → Tells (slice_index_or l.rows.items k []) (loose_before l.program l.items k);
}
