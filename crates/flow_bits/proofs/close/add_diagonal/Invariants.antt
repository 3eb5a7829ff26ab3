use Rattle.std.proofs.Common.{◌≡◌, ◌<◌, ◌⊎◌}
use Rattle.flow_bits.specs.Sets.{Relates, TellsPairs}
use Rattle.flow_bits.specs.Words.{IsTidy, pairs}
use Rattle.flow_bits.proofs.close.add_diagonal.Given as goal

abbrev pub invariant-loop-a : goal.invariant-loop-a
invariant-loop-a l = record {
  tidy : IsTidy l.size l.words;
  set : TellsPairs (pairs l.size l.words) (λ x y. Relates (pairs l.size l.initial.words) x y ⊎ ((x < l.a) × (x ≡ y)));
}
