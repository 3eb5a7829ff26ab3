use Rattle.std.proofs.Common.{◌≡◌, take, map}
use Rattle.package_order.specs.Packages.{item_at}
use Rattle.package_order.proofs.elaboration.items_at.Given as goal

abbrev pub invariant-loop-place : goal.invariant-loop-place
invariant-loop-place l = l.items ≡ map item_at (take l.place-index l.places)
