use Rattle.std.proofs.Common.{◌+◌, ◌*◌, ◌↔◌, drop}
use Rattle.core_form.specs.Calls.{CallsIn}
use Rattle.core_form.specs.Code.{code_of, codes_at}
use Rattle.core_form.proofs.calls.+calls.Given as goal

abbrev pub decreases-all_calls_in : goal.decreases-all_calls_in
decreases-all_calls_in l = 2 * l.below

abbrev pub decreases-calls_in : goal.decreases-calls_in
decreases-calls_in l = 2 * l.s.0 + 1

abbrev pub invariant-all_calls_in-loop-s : goal.invariant-all_calls_in-loop-s
invariant-all_calls_in-loop-s l =
    CallsIn l.program (codes_at (code_of l.program.exprs l.program.stmts) (drop l.s-index l.list))
    ↔ CallsIn l.program (codes_at (code_of l.program.exprs l.program.stmts) l.list)
