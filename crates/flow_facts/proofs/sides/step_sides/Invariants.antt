use Rattle.std.proofs.Common.{◌≡◌, ℕ, ◌<◌, ◌≤◌, ◌+◌, length}
use Rattle.std.specs.Prelude.{All, slice_index_or}
use Rattle.flow_bits.specs.Sets.{Has}
use Rattle.flow_facts.specs.Told.{IsBehind, IsThen, IsEither, IsRound, IsSideSized, no_side, step_flow}
use Rattle.flow_facts.proofs.sides.step_sides.Given as goal

abbrev pub invariant-loop-i : goal.invariant-loop-i
invariant-loop-i l = record {
  size : All (IsSideSized (l.void + 1)) l.sides;
  done : (k : ℕ) → k < l.i → IsBehind (step_flow l.change l.void l.leaf (Has l.from)) (slice_index_or l.initial.sides k no_side) (slice_index_or l.sides k no_side);
  others : (k : ℕ) → l.i ≤ k → slice_index_or l.sides k no_side ≡ slice_index_or l.initial.sides k no_side;
  row : length l.row ≡ l.void + 1;
}
