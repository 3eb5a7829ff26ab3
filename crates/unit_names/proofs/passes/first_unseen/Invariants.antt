use Rattle.std.proofs.Common.{◌≡◌, drop}
use Rattle.unit_names.specs.Names.{first_unseen, unseen_from}
use Rattle.unit_names.proofs.passes.first_unseen.Given as goal

abbrev pub invariant-loop-number : goal.invariant-loop-number
invariant-loop-number l = first_unseen l.units ≡ unseen_from l.units l.number (drop l.number l.units)
