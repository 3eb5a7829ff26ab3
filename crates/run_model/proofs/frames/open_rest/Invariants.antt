use Rattle.std.proofs.Common.{◌≡◌, List}
use Rattle.run_model.specs.Held.{AreRests, held_left, rest_weight}
use Rattle.run_model.specs.Machine.{Remaining}
use Rattle.run_model.proofs.frames.open_rest.Given as goal

abbrev pub invariant-loop-last : goal.invariant-loop-last
invariant-loop-last l = record {
  are_rests : AreRests l.program l.rest.items;
  holds : (k : List Remaining) → held_left l.program l.rest.items k ≡ held_left l.program l.initial.rest.items k;
}

abbrev pub decreases-loop-last : goal.decreases-loop-last
decreases-loop-last l = rest_weight l.program l.rest.items
