use Rattle.std.proofs.Common.{◌≡◌, take}
use Rattle.unit_order.specs.Packages.{packages_in}
use Rattle.unit_order.proofs.listed.packages_in.Given as goal

abbrev pub invariant-loop-withed : goal.invariant-loop-withed
invariant-loop-withed l = l.names ≡ packages_in (take l.withed-index l.withs)
