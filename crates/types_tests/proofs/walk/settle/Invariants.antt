use Rattle.types_objects.specs.Table.{IsTable}
use Rattle.types_tests.proofs.walk.settle.Given as goal

abbrev pub invariant-loop : goal.invariant-loop
invariant-loop l = IsTable l.walk.types
