use Rattle.std.proofs.Common.{◌≡◌, ◌*◌, ◌%◌, ◌^◌, ◌<◌}
use Rattle.whole_numbers.proofs.classes.power_within.Given as goal

abbrev pub decreases-loop-left : goal.decreases-loop-left
decreases-loop-left l = l.left

abbrev pub invariant-loop-left : goal.invariant-loop-left
invariant-loop-left l = (l.square < l.m) × (l.result < l.m) × ((l.result * l.square ^ l.left) % l.m ≡ l.base ^ l.exponent % l.m)
