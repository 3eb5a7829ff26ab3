use Rattle.std.proofs.Common.{◌≡◌, List, drop}
use Rattle.unit_names.specs.declared.heads.Head.{Head}
use Rattle.unit_names.specs.Names.{first_absent, absent_from}
use Rattle.unit_names.specs.Seen.{IsSeen}
use Rattle.unit_names.proofs.passes.first_absent.Given as goal

abbrev pub invariant-loop-place : goal.invariant-loop-place
invariant-loop-place l = (units : List Head) → IsSeen l.seen units → first_absent units l.withs ≡ absent_from units l.place (drop l.place l.withs)
