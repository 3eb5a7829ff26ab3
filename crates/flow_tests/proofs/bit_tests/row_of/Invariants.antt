use Rattle.std.proofs.Common.{◌≡◌, length}
use Rattle.flow_tests.proofs.bit_tests.row_of.Given as goal

abbrev pub invariant-loop-i : goal.invariant-loop-i
invariant-loop-i l = length l.row ≡ l.size
