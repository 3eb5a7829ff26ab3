use Rattle.std.proofs.Common.{◌≡◌, ℕ, ◌<◌, false, length, replicate}
use Rattle.elaboration_order.specs.Queue.{Begun, Settled, HasRoom}
use Rattle.elaboration_order.proofs.queue.Queue.new.Given as goal

abbrev pub invariant-loop-item : goal.invariant-loop-item
invariant-loop-item l = record {
  room : HasRoom l.rules l.queue;
  done : l.queue.done.items ≡ replicate (length l.rules) false;
  begun : (i : ℕ) → Begun l.rules l.queue i;
  settled : (i : ℕ) → i < l.item → Settled l.rules l.queue i;
}
