use Rattle.std.proofs.Common.{◌≡◌, ◌+◌, All, length}
use Rattle.check_tests.proofs.initializes_tests.moments.Given as goal

abbrev pub invariant-loop-n : goal.invariant-loop-n
invariant-loop-n l = record {
  count : length l.moments.items ≡ l.n + 1;
  sizes : All (λ row. length row ≡ length l.program.leaves) l.moments.items;
}
