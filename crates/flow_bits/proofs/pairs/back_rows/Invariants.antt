use Rattle.std.proofs.Common.{◌≡◌, ℕ, ◌<◌, ◌⊎◌, IsTrue, false, length}
use Rattle.flow_bits.specs.Sets.{Gains, Has, Relates, Tells}
use Rattle.flow_bits.specs.Words.{pairs}
use Rattle.flow_bits.proofs.pairs.back_rows.Given as goal

abbrev pub invariant-loop-a : goal.invariant-loop-a
invariant-loop-a l = record {
  size : length l.into ≡ l.size;
  set : Tells l.into (λ x. Has l.initial.into x ⊎ ((x < l.a) × ((b : ℕ) × (Relates (pairs l.size l.words) x b × Has l.row b))));
  grew : IsTrue l.grew → Gains l.initial.into l.into;
  same : l.grew ≡ false → l.into ≡ l.initial.into;
}
