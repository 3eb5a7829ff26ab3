use Rattle.std.proofs.Common.{◌≡◌, drop}
use Rattle.static_eval.specs.Judgements.{all_static}
use Rattle.static_eval.proofs.judgements.all_static.Given as goal

abbrev pub invariant-loop-part : goal.invariant-loop-part
invariant-loop-part l = all_static (drop l.part-index l.parts) ≡ all_static l.parts
