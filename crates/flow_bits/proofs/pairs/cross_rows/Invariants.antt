use Rattle.std.proofs.Common.{◌≡◌, ◌<◌, ◌⊎◌, IsTrue, false}
use Rattle.flow_bits.specs.Sets.{Has, GainsPair, Relates, TellsPairs}
use Rattle.flow_bits.specs.Words.{IsTidy, pairs}
use Rattle.flow_bits.proofs.pairs.cross_rows.Given as goal

abbrev pub invariant-loop-a : goal.invariant-loop-a
invariant-loop-a l = record {
  tidy : IsTidy l.size l.into;
  set : TellsPairs (pairs l.size l.into) (λ x y. Relates (pairs l.size l.initial.into) x y ⊎ ((x < l.a) × (Has l.left x × Has l.right y)));
  grew : IsTrue l.grew → GainsPair (pairs l.size l.initial.into) (pairs l.size l.into);
  same : l.grew ≡ false → l.into ≡ l.initial.into;
}
