use Rattle.std.proofs.Common.{◌≡◌, [], length}
use Rattle.core_form.specs.Code.{Leaves}
use Rattle.run_model.specs.Held.{AreRests, held_left}
use Rattle.run_model.specs.Machine.{resume}
use Rattle.run_model.proofs.frames.leave_loops.Given as goal

abbrev pub invariant-loop-last : goal.invariant-loop-last
invariant-loop-last l = record {
  are_rests : AreRests l.program l.rest.items;
  holds : resume (held_left l.program l.rest.items []) (Leaves l.left) ≡ resume (held_left l.program l.initial.rest.items []) (Leaves l.loops);
}

abbrev pub decreases-loop-last : goal.decreases-loop-last
decreases-loop-last l = length l.rest.items
