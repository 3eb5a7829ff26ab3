use Rattle.std.proofs.Common.{◌≡◌, drop}
use Rattle.core_form.specs.Proper.{result_of}
use Rattle.callee_view.proofs.signatures.result_of.Given as goal

abbrev pub invariant-loop-var : goal.invariant-loop-var
invariant-loop-var l = result_of l.body.0 (drop l.var-index l.vars) ≡ result_of l.body.0 l.vars
