use Rattle.std.proofs.Common.{◌≡◌, drop}
use Rattle.types_objects.specs.Awaited.{components_await}
use Rattle.types_objects.proofs.awaited.components_await.Given as goal

abbrev pub invariant-loop-d : goal.invariant-loop-d
invariant-loop-d l = components_await l.types l.units l.known (drop l.d-index l.components) ≡ components_await l.types l.units l.known l.components
