use Rattle.std.proofs.Common.{◌≡◌, ◌++◌, drop, map}
use Rattle.part_slots.specs.Records.{type_of_field}
use Rattle.part_slots.proofs.values.types_from.Given as goal

abbrev pub invariant-loop-place : goal.invariant-loop-place
invariant-loop-place l = l.types ++ map type_of_field (drop l.place l.fields) ≡ map type_of_field (drop l.fn.first l.fields)
