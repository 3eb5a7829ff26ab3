use Rattle.std.proofs.Common.{◌≡◌}
use Rattle.unit_order.specs.Packages.{packages_below}
use Rattle.unit_order.proofs.listed.packages_of.Given as goal

abbrev pub invariant-loop-name : goal.invariant-loop-name
invariant-loop-name l = l.packages.items ≡ packages_below l.heads l.name
