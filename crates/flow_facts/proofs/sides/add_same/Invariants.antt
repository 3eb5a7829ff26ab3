use Rattle.std.proofs.Common.{◌≡◌, ◌<◌, ◌⊎◌, length}
use Rattle.flow_bits.specs.Sets.{Relates, TellsPairs}
use Rattle.flow_facts.proofs.sides.add_same.Given as goal

abbrev pub invariant-loop-v : goal.invariant-loop-v
invariant-loop-v l = record {
  size : length l.square ≡ length l.initial.square;
  set : TellsPairs l.square (λ x y. Relates l.initial.square x y ⊎ ((x < l.v) × (x ≡ y)));
}
