use Rattle.std.proofs.Common.{take}
use Rattle.unit_names.specs.Seen.{IsSeen}
use Rattle.unit_names.proofs.passes.seen_of.Given as goal

abbrev pub invariant-loop-number : goal.invariant-loop-number
invariant-loop-number l = IsSeen l.seen (take l.number l.units)
