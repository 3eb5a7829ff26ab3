use Rattle.std.proofs.Common.{ℕ, ◌+◌, ◌*◌, ◌<◌, ◌⊎◌, ◌↔◌, All, length, drop}
use Rattle.core_form.specs.Calls.{CallsIn}
use Rattle.core_form.specs.Code.{code_of, codes_at}
use Rattle.call_lists.specs.Lists.{Names}
use Rattle.body_calls.specs.Callees.{HasCall}
use Rattle.body_calls.proofs.callees.+callees.Given as goal

abbrev pub decreases-add_all_callees : goal.decreases-add_all_callees
decreases-add_all_callees l = 2 * l.below

abbrev pub decreases-add_callees : goal.decreases-add_callees
decreases-add_callees l = 2 * l.s.0 + 1

abbrev pub invariant-add_all_callees-loop-s : goal.invariant-add_all_callees-loop-s
invariant-add_all_callees-loop-s l = record {
  calls : CallsIn l.program (codes_at (code_of l.program.exprs l.program.stmts) (drop l.s-index l.list));
  below : All (λ c. c.0 < length l.program.bodies) l.callees;
  names : (c : ℕ) → (Names l.callees c ⊎ HasCall (codes_at (code_of l.program.exprs l.program.stmts) (drop l.s-index l.list)) c)
      ↔ (Names l.initial.callees c ⊎ HasCall (codes_at (code_of l.program.exprs l.program.stmts) l.list) c);
}
