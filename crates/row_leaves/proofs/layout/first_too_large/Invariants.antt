use Rattle.std.proofs.Common.{◌≡◌, ℕ, ◌<◌, ◌≤◌}
use Rattle.summary_rows.specs.Layout.{words_before}
use Rattle.row_leaves.specs.Leaves.{IsTooLarge, most_words}
use Rattle.row_leaves.proofs.layout.first_too_large.Given as goal

abbrev pub invariant-loop-b : goal.invariant-loop-b
invariant-loop-b l = record {
  words : l.words ≡ words_before l.outer l.b;
  room : l.words ≤ most_words;
  none : (c : ℕ) → c < l.b → IsTooLarge l.bodies l.outer c → ⊥;
}
