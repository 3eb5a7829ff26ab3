use Rattle.std.proofs.Common.{◌≡◌, ◌<◌, All, length}
use Rattle.call_lists.proofs.order.depth_first.Given as goal

abbrev pub invariant-loop-b : goal.invariant-loop-b
invariant-loop-b l = record {
  seen : length l.seen.items ≡ length l.callers;
  order : All (λ b. b.0 < length l.callers) l.order.items;
}
