use Rattle.types_objects.specs.Table.{IsTable}
use Rattle.types_tests.proofs.walk.walked.Given as goal

abbrev pub invariant-loop-d : goal.invariant-loop-d
invariant-loop-d l = IsTable l.walk.types
