use Rattle.std.proofs.Common.{◌≡◌, length}
use Rattle.flow_tests.proofs.bit_tests.square_of.Given as goal

abbrev pub invariant-loop-a : goal.invariant-loop-a
invariant-loop-a l = length l.square ≡ l.size
