use Rattle.std.proofs.Common.{◌≡◌, drop}
use Rattle.core_operators.specs.Operators.{are_equal}
use Rattle.core_operators.proofs.operators.are_equal.Given as goal

abbrev pub invariant-loop-i : goal.invariant-loop-i
invariant-loop-i l = are_equal (drop l.i l.a) (drop l.i l.b) ≡ are_equal l.a l.b
