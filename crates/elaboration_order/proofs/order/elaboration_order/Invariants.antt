use Rattle.std.proofs.Common.{◌≡◌, ◌++◌, ◌-◌, length}
use Rattle.elaboration_order.specs.Order.{order, order_from}
use Rattle.elaboration_order.specs.Queue.{IsKept}
use Rattle.elaboration_order.proofs.order.elaboration_order.Given as goal

-- what comes from here on, behind what came so far
abbrev pub invariant-loop : goal.invariant-loop
invariant-loop l = record {
  kept : IsKept l.rules l.queue;
  order : l.items ++ order_from l.rules (length l.rules - l.counter) l.queue.done.items ≡ order l.rules;
}
