use Rattle.std.proofs.Common.{ℕ, ◌<◌}
use Rattle.std.specs.Prelude.{IsTrue, slice_index_or}
use Rattle.flow_facts.specs.Told.{no_side}
use Rattle.flow_facts.proofs.sides.leaves_some.Given as goal

abbrev pub invariant-loop-side : goal.invariant-loop-side
invariant-loop-side l = (n : ℕ) → n < l.side-index → IsTrue (slice_index_or l.leaves n no_side).reached → ⊥
