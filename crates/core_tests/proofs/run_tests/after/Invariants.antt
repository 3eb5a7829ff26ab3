use Rattle.run_model.specs.Held.{IsHeld}
use Rattle.core_tests.proofs.run_tests.after.Given as goal

abbrev pub invariant-loop : goal.invariant-loop
invariant-loop l = IsHeld l.program l.state
