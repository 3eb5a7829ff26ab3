-- Loops over numbers: what was added so far is what the numbers below add.
use Rattle.std.proofs.Common.{ℕ, ◌+◌, ◌<◌, ◌≤◌, ◌⊎◌, List, arith}
use Rattle.call_flow.proofs.Ranges.{some_more}
use Rattle.used_modes.specs.Added.{Adds}
use Rattle.used_modes.proofs.Adding.{adds_both, adds_none, adds_same}

-- what some number below adds
abbrev pub Below : {Y : Type 0} → (ℕ → Y → Type 0) → ℕ → Y → Type 0
Below P i y = (n : ℕ) × ((n < i) × P n y)

module _ {Y : Type 0} (P : ℕ → Y → Type 0) where
  pub none_below : (old : List Y) → Adds old old (Below P 0)
  none_below old = adds_none old (Below P 0) (λ y h. let l : h.0 < 0 = h.1.0 in omega arith)

  pub one_below : (old now new : List Y) (i : ℕ) → Adds old now (Below P i) → Adds now new (P i) → Adds old new (Below P (i + 1))
  one_below old now new i a b = adds_same old new (λ y. Below P i y ⊎ P i y) (Below P (i + 1)) (adds_both old now new (Below P i) (P i) a b)
      (λ y. ((some_more (λ n. P n y) i).1, (some_more (λ n. P n y) i).0))

  -- where no number from the end on adds anything
  pub all_below : (old new : List Y) (i end : ℕ) → end ≤ i → ((n : ℕ) (y : Y) → P n y → n < end) → Adds old new (Below P i) → Adds old new
      (λ y. (n : ℕ) × P n y)
  all_below old new i end l within a = adds_same old new (Below P i) (λ y. (n : ℕ) × P n y) a (λ y. (
    λ h. (h.0, h.1.1),
    λ h. let k : h.0 < end = within h.0 y h.1 in let j : h.0 < i = omega (arith, l, k) in (h.0, (j, h.1)),
  ))
