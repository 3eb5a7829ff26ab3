use Rattle.std.proofs.Common.{◌≡◌, length}
use Rattle.static_eval.specs.Judgements.{chosen}
use Rattle.static_eval.proofs.judgements.chosen.Given as goal

abbrev pub invariant-loop-rest : goal.invariant-loop-rest
invariant-loop-rest l = chosen l.rest ≡ chosen l.parts

abbrev pub decreases-loop-rest : goal.decreases-loop-rest
decreases-loop-rest l = length l.rest
