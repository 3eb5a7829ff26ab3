use Rattle.std.proofs.Common.{◌≡◌, ◌+◌, ◌≤◌, List, drop}
use Rattle.std.specs.Vec.{vec_capacity, vec_len}
use Rattle.core_form.specs.Code.{code_of, codes_at}
use Rattle.run_model.specs.Held.{AreRests, held_left, rest_weight, weight}
use Rattle.run_model.specs.Machine.{Remaining, push}
use Rattle.run_model.proofs.frames.push_all.Given as goal

abbrev pub invariant-loop-i : goal.invariant-loop-i
invariant-loop-i l = record {
  room : vec_len l.rest + l.i ≤ vec_capacity l.rest;
  are_rests : AreRests l.program l.rest.items;
  holds : (k : List Remaining) → held_left l.program l.rest.items k
      ≡ push (codes_at (code_of l.program.exprs l.program.stmts) (drop l.i l.list)) (held_left l.program l.initial.rest.items k);
  weighs : rest_weight l.program l.rest.items ≡ rest_weight l.program l.initial.rest.items + weight l.program (drop l.i l.list);
}
