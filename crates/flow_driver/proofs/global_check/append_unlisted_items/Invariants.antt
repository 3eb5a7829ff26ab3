use Rattle.std.proofs.Common.{◌≡◌, ◌++◌, drop}
use Rattle.flow_driver.specs.GlobalCheck.{unlisted_from, has}
use Rattle.flow_driver.proofs.global_check.append_unlisted_items.Given as goal

-- the messages so far, and those on what is left, are all
abbrev pub invariant-loop-i : goal.invariant-loop-i
invariant-loop-i l = l.list ++ unlisted_from l.program l.row l.body (has l.listed) l.i (drop l.i l.program.items) ≡ l.initial.list ++ unlisted_from l.program l.row l.body (has l.listed) 0 l.program.items
