-- What applications of an equation make.
use Rattle.std.proofs.Common.{◌≡◌, ℕ, zero, suc, ◌+◌, ◌-◌, ◌≤◌, subst, arith}
use Rattle.least_solution.specs.Least.{applied, Grows}

module _ {Fact : Type 0} (F : (Fact → Type 0) → Fact → Type 0) (grows : Grows F) where
  applied_more : (n : ℕ) (f : Fact) → applied F n f → applied F (suc n) f
  applied_more zero f x = absurd x
  applied_more (suc n) f x = grows (applied F n) (applied F (suc n)) f (applied_more n) x

  applied_by : (k n m : ℕ) → m ≡ n + k → (f : Fact) → applied F n f → applied F m f
  applied_by zero n m e f x = let d : n ≡ m = omega arith in subst (λ j. applied F j f) d x
  applied_by (suc k) n m e f x = let d : m ≡ suc n + k = omega arith in applied_by k (suc n) m d f (applied_more n f x)

  -- more applications make more
  pub applied_up : (n m : ℕ) → n ≤ m → (f : Fact) → applied F n f → applied F m f
  applied_up n m h f x = let e : m ≡ n + (m - n) = omega arith in applied_by (m - n) n m e f x

  -- facts over which the equation holds have what any number of applications makes
  pub applied_within : (T : Fact → Type 0) → ((f : Fact) → F T f → T f) → (n : ℕ) (f : Fact) → applied F n f → T f
  applied_within T h zero f x = absurd x
  applied_within T h (suc n) f x = h f (grows (applied F n) T f (applied_within T h n) x)
