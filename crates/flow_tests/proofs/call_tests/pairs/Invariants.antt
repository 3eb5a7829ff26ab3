use Rattle.std.proofs.Common.{◌≡◌, length}
use Rattle.flow_tests.proofs.call_tests.pairs.Given as goal

abbrev pub invariant-loop-from : goal.invariant-loop-from
invariant-loop-from l = length l.square ≡ 4
