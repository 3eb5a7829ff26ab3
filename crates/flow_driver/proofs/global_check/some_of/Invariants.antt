use Rattle.std.proofs.Common.{◌≡◌, ◌+◌, ◌-◌}
use Rattle.flow_driver.specs.GlobalCheck.{has, some_leaf, some_of}
use Rattle.flow_driver.proofs.global_check.some_of.Given as goal

-- the leaves that are left decide
abbrev pub invariant-loop-i : goal.invariant-loop-i
invariant-loop-i l = some_leaf (has l.row) (l.var.count - l.i) (l.var.from.0 + l.i) ≡ some_of (has l.row) l.var
