use Rattle.std.proofs.Common.{◌≡◌, ℕ, ◌+◌, ◌-◌, ◌<◌, ◌≤◌, ◌⊎◌, ◌↔◌, IsTrue, false}
use Rattle.summary_rows.specs.Bits.{InWord}
use Rattle.summary_rows.proofs.words.join_words.Given as goal

abbrev pub invariant-loop-k : goal.invariant-loop-k
invariant-loop-k l = record {
  set : (w i : ℕ) → InWord l.into w i ↔ (InWord l.initial.into w i ⊎ ((l.first ≤ w) × ((w < l.first + l.k) × InWord l.from (w - l.first) i)));
  grew : IsTrue l.grew → (w i : ℕ) × ((InWord l.initial.into w i → ⊥) × InWord l.into w i);
  same : l.grew ≡ false → l.into ≡ l.initial.into;
}
