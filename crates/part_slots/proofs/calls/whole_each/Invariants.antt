use Rattle.std.proofs.Common.{◌≡◌, replicate}
use Rattle.part_slots.specs.declared.slots.Slot.TheVariants.{Whole}
use Rattle.part_slots.proofs.calls.whole_each.Given as goal

abbrev pub invariant-loop : goal.invariant-loop
invariant-loop l = l.slots ≡ replicate l.counter Whole
