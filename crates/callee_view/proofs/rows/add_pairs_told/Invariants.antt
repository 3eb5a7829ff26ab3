use Rattle.std.proofs.Common.{◌≡◌, ◌<◌, ◌⊎◌, length}
use Rattle.flow_bits.specs.Sets.{Relates, TellsPairs}
use Rattle.summary_rows.specs.Facts.{Depending}
use Rattle.summary_rows.specs.Layout.{told}
use Rattle.callee_view.specs.Seen.{of_body}
use Rattle.callee_view.specs.Shown.{leaf_at}
use Rattle.callee_view.proofs.rows.add_pairs_told.Given as goal

abbrev pub invariant-loop-j : goal.invariant-loop-j
invariant-loop-j l = record {
  size : length l.into ≡ length l.initial.into;
  set : TellsPairs l.into (λ x y. Relates l.initial.into x y ⊎ ((l.i ≡ x) × ((y < l.j) × told l.rows (of_body l.body.0 (Depending (leaf_at l.outer x) (leaf_at l.outer y))))));
}
