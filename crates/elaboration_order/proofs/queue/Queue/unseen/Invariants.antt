use Rattle.std.proofs.Common.{◌≡◌, length}
use Rattle.elaboration_order.proofs.queue.Queue.unseen.Given as goal

abbrev pub invariant-loop : goal.invariant-loop
invariant-loop l = length l.waiting.items ≡ l.counter
