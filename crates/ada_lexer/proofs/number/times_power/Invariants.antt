use Rattle.std.proofs.Common.{◌≡◌, ◌<◌, ◌*◌, ◌^◌}
use Rattle.ada_lexer.proofs.number.times_power.Given as goal

abbrev pub invariant-loop-left : goal.invariant-loop-left
invariant-loop-left l = (0 < l.all) × (l.all * l.base ^ l.left ≡ l.value * l.base ^ l.times) × (l.all < 2 ^ 128)

abbrev pub decreases-loop-left : goal.decreases-loop-left
decreases-loop-left l = l.left
