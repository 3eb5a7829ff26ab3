use Rattle.std.proofs.Common.{◌≡◌, ◌<◌, All, length}
use Rattle.row_tests.proofs.leaf_tests.turns.Given as goal

abbrev pub invariant-loop-v : goal.invariant-loop-v
invariant-loop-v l = record {
  size : length l.lists ≡ l.v;
  below : All (λ list. All (λ b. b.0 < l.bodies) list) l.lists;
}
