use Rattle.std.proofs.Common.{◌≡◌, ℕ, length, []}
use Rattle.summary_rows.specs.Layout.{IsLayout, outer_of}
use Rattle.row_tests.proofs.solver_tests.bare_layout.Given as goal

abbrev pub invariant-loop-b : goal.invariant-loop-b
invariant-loop-b l = record {
  layout : IsLayout l.layout;
  bodies : length l.layout.outer ≡ l._b;
  words : l.layout.words ≡ l._b;
  bare : (b : ℕ) → outer_of l.layout b ≡ [];
}
