use Rattle.std.proofs.Common.{◌≡◌, take}
use Rattle.package_order.specs.Packages.{with_graph}
use Rattle.package_order.proofs.rules.graph_of.Given as goal

abbrev pub invariant-loop-owner : goal.invariant-loop-owner
invariant-loop-owner l = l.graph.items ≡ with_graph (take l.owner-index l.all)
