use Rattle.std.proofs.Common.{◌≡◌, ◌+◌, ◌*◌, ◌%◌, ◌<◌}
use Rattle.whole_numbers.proofs.classes.product_within.Given as goal

abbrev pub decreases-loop-left : goal.decreases-loop-left
decreases-loop-left l = l.left

abbrev pub invariant-loop-left : goal.invariant-loop-left
invariant-loop-left l = (l.double < l.m) × (l.result < l.m) × ((l.result + l.double * l.left) % l.m ≡ l.a * l.b % l.m)
