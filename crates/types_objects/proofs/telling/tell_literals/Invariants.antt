use Rattle.std.proofs.Common.{◌≡◌, drop}
use Rattle.types_objects.specs.Telling.{with_literals}
use Rattle.types_objects.proofs.telling.tell_literals.Given as goal

abbrev pub invariant-loop-position : goal.invariant-loop-position
invariant-loop-position l =
    with_literals l.known l.range l.position (drop l.position l.literals) ≡ with_literals l.fn.known l.range 0 l.literals
