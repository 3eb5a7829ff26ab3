use Rattle.std.proofs.Common.{◌≡◌, map, take}
use Rattle.unit_order.specs.Heads.{head_of, keys_of}
use Rattle.unit_order.proofs.heads.heads_of.Given as goal

abbrev pub invariant-loop-unit : goal.invariant-loop-unit
invariant-loop-unit l = l.heads.items ≡ map (head_of l.units (keys_of l.units.units)) (take l.unit-index l.units.units)
