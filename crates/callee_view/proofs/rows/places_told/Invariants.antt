use Rattle.std.proofs.Common.{◌≡◌, ◌<◌, length}
use Rattle.flow_bits.specs.Sets.{Tells}
use Rattle.summary_rows.specs.Layout.{told}
use Rattle.callee_view.specs.Seen.{of_body}
use Rattle.callee_view.specs.Shown.{leaf_at, part_asked}
use Rattle.callee_view.proofs.rows.places_told.Given as goal

abbrev pub invariant-loop-i : goal.invariant-loop-i
invariant-loop-i l = record {
  size : length l.row ≡ length l.outer;
  set : Tells l.row (λ x. (x < l.i) × told l.rows (of_body l.body.0 (part_asked l.question (leaf_at l.outer x))));
}
