use Rattle.std.proofs.Common.{◌≡◌, length}
use Rattle.flow_tests.proofs.call_tests.places.Given as goal

abbrev pub invariant-loop-place : goal.invariant-loop-place
invariant-loop-place l = length l.row ≡ 4
