use Rattle.std.proofs.Common.{◌≡◌, length}
use Rattle.row_tests.proofs.leaf_tests.repeated.Given as goal

abbrev pub invariant-loop-i : goal.invariant-loop-i
invariant-loop-i g l = length l.items ≡ l._i
