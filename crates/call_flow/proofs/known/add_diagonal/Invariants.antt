use Rattle.std.proofs.Common.{◌≡◌, ◌<◌, ◌⊎◌, length}
use Rattle.flow_bits.specs.Sets.{Has, Relates, TellsPairs}
use Rattle.call_flow.proofs.known.add_diagonal.Given as goal

abbrev pub invariant-loop-v : goal.invariant-loop-v
invariant-loop-v l = record {
  size : length l.into ≡ length l.initial.into;
  set : TellsPairs l.into (λ x y. Relates l.initial.into x y ⊎ ((x < l.v) × ((x ≡ y) × Has l.row x)));
}
