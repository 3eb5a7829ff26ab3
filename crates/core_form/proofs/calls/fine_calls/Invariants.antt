use Rattle.std.proofs.Common.{◌≡◌, ℕ, ◌<◌, Some}
use Rattle.std.specs.Prelude.{slice_get}
use Rattle.core_form.specs.Calls.{CallsIn}
use Rattle.core_form.specs.Code.{code_of}
use Rattle.core_form.proofs.calls.fine_calls.Given as goal

abbrev pub invariant-loop-body : goal.invariant-loop-body
invariant-loop-body l = (k : ℕ) (body : _) → k < l.body-index → slice_get l.program.bodies k ≡ Some body
    → CallsIn l.program (code_of l.program.exprs l.program.stmts body.code)
