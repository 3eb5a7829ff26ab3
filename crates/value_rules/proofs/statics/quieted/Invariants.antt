use Rattle.std.proofs.Common.{◌≡◌, map, take}
use Rattle.value_rules.specs.Statics.{quiet}
use Rattle.value_rules.proofs.statics.quieted.Given as goal

abbrev pub invariant-loop-said : goal.invariant-loop-said
invariant-loop-said l = l.all ≡ map quiet (take l.said-index l.parts)
