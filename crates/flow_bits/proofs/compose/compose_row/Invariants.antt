use Rattle.std.proofs.Common.{◌≡◌, ℕ, ◌*◌, ◌<◌, ◌⊎◌, IsTrue, false}
use Rattle.flow_bits.specs.Sets.{GainsPair, Relates, TellsPairs}
use Rattle.flow_bits.specs.Words.{IsTidy, pairs}
use Rattle.flow_bits.proofs.compose.compose_row.Given as goal

abbrev pub invariant-loop-k : goal.invariant-loop-k
invariant-loop-k l = record {
  tidy : IsTidy l.size l.into;
  set : TellsPairs (pairs l.size l.into) (λ x y. Relates (pairs l.size l.initial.into) x y
      ⊎ ((b : ℕ) × (b < 64 * l.k) × ((x ≡ l.a) × (Relates (pairs l.size l.first) l.a b × Relates (pairs l.size l.second) b y))));
  grew : IsTrue l.grew → GainsPair (pairs l.size l.initial.into) (pairs l.size l.into);
  same : l.grew ≡ false → l.into ≡ l.initial.into;
}
