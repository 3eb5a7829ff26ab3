-- proofs/exits/+exits/Invariants.antt
use Rattle.std.proofs.Common.{◌+◌, ◌*◌, ◌↔◌, drop}
use Rattle.core_form.specs.Code.{code_of, codes_at}
use Rattle.core_form.specs.Exits.{ExitsIn}
use Rattle.core_form.proofs.exits.+exits.Given as goal

abbrev pub decreases-all_exits_in : goal.decreases-all_exits_in
decreases-all_exits_in l = 2 * l.below

abbrev pub decreases-exits_in : goal.decreases-exits_in
decreases-exits_in l = 2 * l.s.0 + 1

abbrev pub invariant-all_exits_in-loop-s : goal.invariant-all_exits_in-loop-s
invariant-all_exits_in-loop-s l =
    ExitsIn l.loops (codes_at (code_of l.program.exprs l.program.stmts) (drop l.s-index l.list))
    ↔ ExitsIn l.loops (codes_at (code_of l.program.exprs l.program.stmts) l.list)
