use Rattle.std.proofs.Common.{◌≡◌}
use Rattle.part_slots.specs.Records.{own_slots}
use Rattle.part_slots.proofs.values.own_slots.Given as goal

abbrev pub invariant-loop-place : goal.invariant-loop-place
invariant-loop-place l = l.slots ≡ own_slots l.fields l.place
