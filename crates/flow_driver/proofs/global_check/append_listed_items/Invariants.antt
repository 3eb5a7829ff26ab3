use Rattle.std.proofs.Common.{◌≡◌, ◌++◌, drop}
use Rattle.flow_driver.specs.GlobalCheck.{listed_messages}
use Rattle.flow_driver.proofs.global_check.append_listed_items.Given as goal

-- the messages so far, and those on what is left, are all
abbrev pub invariant-loop-global : goal.invariant-loop-global
invariant-loop-global l = l.list ++ listed_messages l.program l.row l.body (drop l.global-index l.globals) ≡ l.initial.list ++ listed_messages l.program l.row l.body l.globals
