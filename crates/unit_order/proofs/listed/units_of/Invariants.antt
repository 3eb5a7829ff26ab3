use Rattle.std.proofs.Common.{◌≡◌, take}
use Rattle.unit_order.specs.Packages.{units_of}
use Rattle.unit_order.proofs.listed.units_of.Given as goal

abbrev pub invariant-loop-item : goal.invariant-loop-item
invariant-loop-item l = l.units ≡ units_of l.heads (take l.item-index l.items)
