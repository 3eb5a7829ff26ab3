use Rattle.std.proofs.Common.{◌≡◌, take}
use Rattle.unit_order.specs.Heads.{with_all}
use Rattle.unit_order.proofs.heads.add_all.Given as goal

abbrev pub invariant-loop-unit : goal.invariant-loop-unit
invariant-loop-unit l = l.keys ≡ with_all l.initial.keys (take l.unit-index l.units)
