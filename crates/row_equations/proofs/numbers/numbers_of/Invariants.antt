use Rattle.std.proofs.Common.{◌≡◌, ℕ, ◌+◌, ◌<◌, None, length}
use Rattle.std.specs.Prelude.{All, IfSome, slice_index_or}
use Rattle.summary_rows.specs.Layout.{IsAt}
use Rattle.flow_relations.specs.Framing.{frame_size}
use Rattle.row_equations.specs.Packing.{IsNumber}
use Rattle.row_equations.proofs.numbers.numbers_of.Given as goal

abbrev pub invariant-loop-leaf : goal.invariant-loop-leaf
invariant-loop-leaf l = record {
  count : length l.numbers.items ≡ l.leaf-index;
  each : (v i : ℕ) → i < length l.numbers.items → IsAt l.outer v i → IsNumber l.frame v (slice_index_or l.numbers.items i None);
  below : All (λ n. IfSome n (λ k. k < frame_size l.frame + 1)) l.numbers.items;
}
