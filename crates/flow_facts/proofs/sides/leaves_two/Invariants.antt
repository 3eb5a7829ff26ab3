use Rattle.std.proofs.Common.{◌≡◌, ℕ, ◌<◌, ◌↔◌}
use Rattle.std.specs.Prelude.{IsTrue, slice_index_or}
use Rattle.flow_facts.specs.Told.{no_side}
use Rattle.flow_facts.proofs.sides.leaves_two.Given as goal

abbrev pub invariant-loop-i : goal.invariant-loop-i
invariant-loop-i l = record {
  seen : IsTrue l.seen ↔ ((n : ℕ) × ((n < l.i) × IsTrue (slice_index_or l.leaves n no_side).reached));
  one : (n m : ℕ) → n < l.i → m < l.i → IsTrue (slice_index_or l.leaves n no_side).reached → IsTrue (slice_index_or l.leaves m no_side).reached → n ≡ m;
}
