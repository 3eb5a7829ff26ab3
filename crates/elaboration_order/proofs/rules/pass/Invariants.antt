use Rattle.std.proofs.Common.{◌≡◌, true, take}
use Rattle.elaboration_order.specs.Order.{are_done}
use Rattle.elaboration_order.specs.Queue.{needs}
use Rattle.elaboration_order.proofs.rules.pass.Given as goal

abbrev pub invariant-loop-at : goal.invariant-loop-at
invariant-loop-at l = are_done l.done (take l.from (needs l.rule)) ≡ true → are_done l.done (take l.at (needs l.rule)) ≡ true
