use Rattle.std.proofs.Common.{◌≡◌, ◌<◌, length}
use Rattle.flow_bits.specs.Sets.{TellsPairs}
use Rattle.summary_rows.specs.Facts.{Depending}
use Rattle.summary_rows.specs.Layout.{told}
use Rattle.callee_view.specs.Seen.{of_body}
use Rattle.callee_view.specs.Shown.{leaf_at}
use Rattle.callee_view.proofs.rows.pairs_told.Given as goal

abbrev pub invariant-loop-i : goal.invariant-loop-i
invariant-loop-i l = record {
  size : length l.square ≡ length l.outer;
  set : TellsPairs l.square (λ x y. (x < l.i) × ((y < length l.outer) × told l.rows (of_body l.body.0 (Depending (leaf_at l.outer x) (leaf_at l.outer y)))));
}
