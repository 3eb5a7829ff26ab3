use Rattle.std.proofs.Common.{◌<◌, All, length}
use Rattle.call_lists.proofs.order.add_from.Given as goal

abbrev pub invariant-loop-step : goal.invariant-loop-step
invariant-loop-step l = record {
  stack : All (λ s. s.body.0 < length l.callers) l.stack.items;
  order : All (λ b. b.0 < length l.callers) l.order.items;
}
