use Rattle.std.proofs.Common.{◌≡◌, ℕ, ◌<◌, ◌≤◌, length}
use Rattle.std.specs.Prelude.{All, slice_index_or}
use Rattle.flow_facts.specs.Told.{IsSideSized, no_side}
use Rattle.flow_facts.proofs.sides.pad.Given as goal

abbrev pub invariant-loop-i : goal.invariant-loop-i
invariant-loop-i l = record {
  size : (n : ℕ) → All (IsSideSized n) l.initial.sides.items → All (IsSideSized n) l.sides.items;
  count : l._i ≡ length l.sides.items;
  same : (k : ℕ) → slice_index_or l.sides.items k no_side ≡ slice_index_or l.initial.sides.items k no_side;
}
