use Rattle.std.proofs.Common.{◌≡◌, length}
use Rattle.static_eval.specs.Judgements.{branch_type}
use Rattle.static_eval.proofs.judgements.branch_type.Given as goal

abbrev pub invariant-loop-rest : goal.invariant-loop-rest
invariant-loop-rest l = branch_type l.rest ≡ branch_type l.parts

abbrev pub decreases-loop-rest : goal.decreases-loop-rest
decreases-loop-rest l = length l.rest
