use Rattle.std.proofs.Common.{ℕ, ◌<◌, All}
use Rattle.call_lists.specs.Lists.{Names}
use Rattle.call_lists.proofs.order.numbered.Given as goal

abbrev pub invariant-loop-b : goal.invariant-loop-b
invariant-loop-b l = record {
  below : All (λ b. b.0 < l.bodies) l.list.items;
  all : (b : ℕ) → b < l.b → Names l.list.items b;
}
