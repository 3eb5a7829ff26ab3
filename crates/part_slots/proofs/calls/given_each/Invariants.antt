use Rattle.std.proofs.Common.{◌≡◌, Some, replicate}
use Rattle.part_slots.specs.declared.slots.Slot.TheVariants.{Given}
use Rattle.seen_types.specs.declared.seen.ExprType.TheVariants.{Of}
use Rattle.part_slots.proofs.calls.given_each.Given as goal

abbrev pub invariant-loop : goal.invariant-loop
invariant-loop l = l.slots ≡ replicate l.counter (Given (Some (Of l.t)))
