use Rattle.std.proofs.Common.{◌≡◌, ℕ, ◌⊎◌, drop}
use Rattle.std.specs.List.{Contains}
use Rattle.elaboration_order.specs.Queue.{Begun, Settled, HasRoom}
use Rattle.elaboration_order.proofs.queue.Queue.next.Given as goal

-- each item was seen to, or is among those that are left
abbrev pub invariant-loop-other : goal.invariant-loop-other
invariant-loop-other l = record {
  room : HasRoom l.rules l.self;
  done : l.self.done.items ≡ l.initial.self.done.items;
  begun : (i : ℕ) → Begun l.rules l.self i;
  settled : (i : ℕ) → Settled l.rules l.self i ⊎ Contains (drop l.other-index l.other-items) i;
}
