use Rattle.std.proofs.Common.{◌↔◌, drop}
use Rattle.std.specs.List.{Contains}
use Rattle.used_modes.proofs.added.has_item.Given as goal

-- those that are left decide
abbrev pub invariant-loop-other : goal.invariant-loop-other
invariant-loop-other l = Contains (drop l.other-index l.list) l.item ↔ Contains l.list l.item
