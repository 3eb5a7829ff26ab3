use Rattle.std.proofs.Common.{◌≡◌, ◌<◌, ◌⊎◌, length}
use Rattle.flow_bits.specs.Sets.{Has, Relates, Tells}
use Rattle.flow_bits.specs.Words.{pairs}
use Rattle.flow_bits.proofs.pairs.diagonal_rows.Given as goal

abbrev pub invariant-loop-a : goal.invariant-loop-a
invariant-loop-a l = record {
  size : length l.into ≡ l.size;
  set : Tells l.into (λ v. Has l.initial.into v ⊎ ((v < l.a) × Relates (pairs l.size l.words) v v));
}
