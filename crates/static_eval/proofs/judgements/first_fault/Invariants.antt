use Rattle.std.proofs.Common.{◌≡◌, drop}
use Rattle.static_eval.specs.Judgements.{first_fault}
use Rattle.static_eval.proofs.judgements.first_fault.Given as goal

abbrev pub invariant-loop-part : goal.invariant-loop-part
invariant-loop-part l = first_fault (drop l.part-index l.parts) ≡ first_fault l.parts
