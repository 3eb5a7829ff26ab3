use Rattle.std.proofs.Common.{◌≡◌, ℕ, ◌<◌, ◌≤◌, ◌+◌, length}
use Rattle.std.specs.Prelude.{All, slice_index_or}
use Rattle.flow_bits.specs.Sets.{Has}
use Rattle.flow_facts.specs.Told.{IsBehind, IsThen, IsEither, IsRound, IsSideSized, no_side, step_flow}
use Rattle.flow_facts.proofs.sides.round_sides.Given as goal

abbrev pub invariant-loop-i : goal.invariant-loop-i
invariant-loop-i l = record {
  size : All (IsSideSized (length l.decides)) l.sides;
  done : (k : ℕ) → k < l.i → IsRound l.next l.star l.decides l.writes (slice_index_or l.initial.sides k no_side) (slice_index_or l.sides k no_side);
  others : (k : ℕ) → l.i ≤ k → slice_index_or l.sides k no_side ≡ slice_index_or l.initial.sides k no_side;
}
