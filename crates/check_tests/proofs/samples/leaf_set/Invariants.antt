use Rattle.std.proofs.Common.{◌≡◌, length}
use Rattle.check_tests.proofs.samples.leaf_set.Given as goal

abbrev pub invariant-loop-leaf : goal.invariant-loop-leaf
invariant-loop-leaf l = record {
  size : length l.row ≡ l.count;
}
