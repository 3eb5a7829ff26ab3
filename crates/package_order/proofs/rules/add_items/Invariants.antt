use Rattle.std.proofs.Common.{◌≡◌, ◌++◌, take}
use Rattle.package_order.specs.Packages.{items_of}
use Rattle.package_order.proofs.rules.add_items.Given as goal

abbrev pub invariant-loop-name : goal.invariant-loop-name
invariant-loop-name l = l.places ≡ l.initial.places ++ items_of l.all l.is_body (take l.name-index l.names)
