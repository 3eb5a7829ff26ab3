use Rattle.std.proofs.Common.{◌≡◌, ◌++◌, drop}
use Rattle.types_objects.specs.Made.{literal_names}
use Rattle.types_objects.proofs.made.literal_names.Given as goal

abbrev pub invariant-loop-d : goal.invariant-loop-d
invariant-loop-d l = l.names ++ literal_names l.units (drop l.d-index l.literals) ≡ literal_names l.units l.literals
