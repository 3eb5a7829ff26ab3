-- What a relation is after its first k numbers were stepped through, and that all of them are enough.
use Rattle.std.proofs.Common.{◌≡◌, ℕ, zero, suc, ◌+◌, ◌<◌, ◌⊎◌, ◌↔◌, inl, inr, refl, sym, subst, arith, add-one}
use Rattle.std.proofs.lemmas.Bool.{cases_lt}
use Rattle.flow_bits.specs.Sets.{Steps}

-- from x to y through numbers below k
abbrev pub Through : (ℕ → ℕ → Type 0) → ℕ → ℕ → ℕ → Type 0
Through R zero x y = R x y
Through R (suc k) x y = Through R k x y ⊎ (Through R k x k × Through R k k y)

module _ (R : ℕ → ℕ → Type 0) where
  more_steps : (n m x y z : ℕ) → Steps R n x y → Steps R m y z → (k : ℕ) × Steps R k x z
  more_steps zero m x y z e t = (m, subst (λ u. Steps R m u z) (sym e) t)
  more_steps (suc n) m x y z (u, (r, s)) t = let i = more_steps n m u y z s t in (suc i.0, (u, (r, i.1)))

  -- it is some number of steps, and one at least
  Through_steps : (k x y : ℕ) → Through R k x y → (n : ℕ) × Steps R n x y
  Through_steps zero x y r = (suc zero, (y, (r, refl)))
  Through_steps (suc k) x y (inl t) = Through_steps k x y t
  Through_steps (suc k) x y (inr (t, u)) = let a = Through_steps k x k t in let b = Through_steps k k y u in more_steps a.0 b.0 x k y a.1 b.1

  one_step : (k x y : ℕ) → R x y → Through R k x y
  one_step zero x y r = r
  one_step (suc k) x y r = inl (one_step k x y r)

  abbrev Meets : ℕ → Type 0
  Meets k = (x b y : ℕ) → b < k → Through R k x b → Through R k b y → Through R k x y

  ends_at : (k x : ℕ) → Through R (suc k) x k → Through R k x k
  ends_at k x (inl p) = p
  ends_at k x (inr p) = p.0

  starts_at : (k y : ℕ) → Through R (suc k) k y → Through R k k y
  starts_at k y (inl p) = p
  starts_at k y (inr p) = p.1

  meet_below : (k : ℕ) → Meets k → (x b y : ℕ) → b < k → Through R (suc k) x b → Through R (suc k) b y → Through R (suc k) x y
  meet_below k i x b y m (inl p) (inl q) = inl (i x b y m p q)
  meet_below k i x b y m (inl p) (inr q) = inr (i x b k m p q.0, q.1)
  meet_below k i x b y m (inr p) (inl q) = inr (p.0, i k b y m p.1 q)
  meet_below k i x b y m (inr p) (inr q) = inr (p.0, q.1)

  -- two ways that meet below k are one
  meeting : (k : ℕ) → Meets k
  meeting zero x b y l s t = absurd (omega arith)
  meeting (suc k) x b y l s t = elim (cases_lt b k) [
    | inl m ↦ meet_below k (meeting k) x b y m s t
    | inr g ↦ (let e : b ≡ k = omega arith in inr (ends_at k x (subst (λ u. Through R (suc k) x u) e s), starts_at k y (subst (λ u. Through R (suc k) u y) e t)))
  ]

  -- each step ends below n
  steps_through : (n : ℕ) → ((x y : ℕ) → R x y → y < n) → (m x y z : ℕ) → R x y → Steps R m y z → Through R n x z
  steps_through n h zero x y z r e = one_step n x z (subst (λ u. R x u) e r)
  steps_through n h (suc m) x y z r (u, (s, t)) = meeting n x y z (h x y r) (one_step n x y r) (steps_through n h m y u z s t)

-- what the code comes to: all ways, and each number with itself
pub closes_all : (R : ℕ → ℕ → Type 0) (n : ℕ) → ((x y : ℕ) → R x y → (x < n) × (y < n)) → (x y : ℕ)
    → (Through R n x y ⊎ ((x < n) × (x ≡ y))) ↔ ((x < n) × ((m : ℕ) × Steps R m x y))
closes_all R n h x y = (there, back)
  where
    first_below : (k v w : ℕ) → Through R k v w → v < n
    first_below zero v w r = (h v w r).0
    first_below (suc k) v w (inl t) = first_below k v w t
    first_below (suc k) v w (inr t) = first_below k v k t.0

    there : Through R n x y ⊎ ((x < n) × (x ≡ y)) → (x < n) × ((m : ℕ) × Steps R m x y)
    there (inl t) = (first_below n x y t, Through_steps R n x y t)
    there (inr e) = (e.0, (zero, e.1))

    walk : (m : ℕ) → x < n → Steps R m x y → Through R n x y ⊎ ((x < n) × (x ≡ y))
    walk zero l e = inr (l, e)
    walk (suc m) l (u, (r, t)) = inl (steps_through R n (λ v w s. (h v w s).1) m x u y r t)

    back : (x < n) × ((m : ℕ) × Steps R m x y) → Through R n x y ⊎ ((x < n) × (x ≡ y))
    back c = walk c.1.0 c.0 c.1.1

-- one number more is stepped through
pub through_more : (R old new : ℕ → ℕ → Type 0) (k : ℕ) → ((x y : ℕ) → old x y ↔ Through R k x y) → ((x y : ℕ) → new x y ↔ (old x y ⊎ (old x k × old k y))) → (x y : ℕ) → new x y ↔ Through R (k + 1) x y
through_more R old new k h s x y = rw (add-one k) (
  λ n. elim ((s x y).0 n) [ inl o ↦ inl ((h x y).0 o) | inr o ↦ inr ((h x k).0 o.0, (h k y).0 o.1) ],
  λ t. elim t [ inl p ↦ (s x y).1 (inl ((h x y).1 p)) | inr p ↦ (s x y).1 (inr ((h x k).1 p.0, (h k y).1 p.1)) ],
)
