use Rattle.std.proofs.Common.{◌≡◌, ◌++◌, drop}
use Rattle.types_objects.specs.Made.{fields_of}
use Rattle.types_objects.proofs.made.fields_of.Given as goal

abbrev pub invariant-loop-d : goal.invariant-loop-d
invariant-loop-d l =
    l.fields ++ fields_of l.types l.units l.known (drop l.d-index l.components) ≡ fields_of l.types l.units l.known l.components
