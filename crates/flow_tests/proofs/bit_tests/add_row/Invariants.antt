use Rattle.std.proofs.Common.{◌≡◌, length}
use Rattle.flow_tests.proofs.bit_tests.add_row.Given as goal

abbrev pub invariant-loop-b : goal.invariant-loop-b
invariant-loop-b l = length l.square ≡ length l.initial.square
