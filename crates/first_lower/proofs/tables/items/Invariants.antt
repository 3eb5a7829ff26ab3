use Rattle.std.proofs.Common.{◌≡◌, ◌++◌, drop}
use Rattle.first_lower.specs.Lowered.{each_from, low_item}
use Rattle.first_lower.proofs.tables.items.Given as goal

-- the items so far, and those of what is left, are those of all
abbrev pub invariant-loop-i : goal.invariant-loop-i
invariant-loop-i l = l.list ++ each_from low_item l.i (drop l.i l.variables) ≡ each_from low_item 0 l.variables
