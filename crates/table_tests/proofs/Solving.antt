-- What the bodies of the small systems may join.
use Rattle.std.proofs.Common.{◌≡◌, inl, inr, ⊎_elim, ℕ, zero, suc, ◌<◌, sym, ap, arith}
use Rattle.std.specs.Int.{bit_at}
use Rattle.std.proofs.lemmas.Bool.{cases_eq}
use Rattle.std.proofs.lemmas.Nat.Bits.{bit_at-pow_other}
use Rattle.least_solution.specs.Least.{Among}
use Rattle.least_solution.specs.Rules.{follows}
use Rattle.claim_core.specs.Bits.{Below, HasBit, Bit}
use Rattle.table_tests.specs.Samples.{fact, rules_of}

among_fact : (n w : ℕ) → w < n → Among (fact w) (rules_of n)
among_fact zero w lt = absurd (omega arith)
among_fact (suc n) w lt = ⊎_elim (λ (e : w ≡ n). inl (ap fact e)) (λ (ne : w ≡ n → ⊥). inr (among_fact n w (omega arith))) (cases_eq w n)

only_first : (k : ℕ) → HasBit 1 k → k ≡ 0
only_first k h = ⊎_elim (λ (e : k ≡ 0). e) (λ (ne : k ≡ 0 → ⊥). let z : bit_at 1 k ≡ 0 = bit_at-pow_other 0 k ne in absurd (omega arith)) (cases_eq k 0)

-- the first bit of each word follows
pub covers : (n w : ℕ) → w < n → (R : Bit → Type 0) → Below 1 (λ k. follows (rules_of n) R (record { word = w; place = k }))
covers n w lt R k h = (fact w, (among_fact n w lt, (λ i. record { word = w; place = sym (only_first k h) i }, λ g a. absurd a)))
