-- What holds of some number below a bound, one more at a time.
use Rattle.std.proofs.Common.{◌≡◌, ℕ, ◌+◌, ◌<◌, ◌≤◌, ◌⊎◌, ◌↔◌, inl, inr, subst, sym, arith}
use Rattle.std.proofs.lemmas.Bool.{cases_lt}

at_one : (b x : ℕ) → x < b + 1 → (x < b) ⊎ (x ≡ b)
at_one b x h = elim (cases_lt x b) [ inl l ↦ inl l | inr g ↦ (let e : x ≡ b = omega arith in inr e) ]

pub some_more : (P : ℕ → Type 0) (b : ℕ) → ((x : ℕ) × ((x < b + 1) × P x)) ↔ (((x : ℕ) × ((x < b) × P x)) ⊎ P b)
some_more P b = (
  λ s. elim (at_one b s.0 s.1.0) [ inl l ↦ inl (s.0, (l, s.1.1)) | inr e ↦ inr (subst P e s.1.1) ],
  λ s. elim s [ inl t ↦ (let l : t.0 < b + 1 = omega (arith, t.1.0) in (t.0, (l, t.1.1))) | inr p ↦ (let l : b < b + 1 = omega arith in (b, (l, p))) ],
)

-- a loop that adds what holds by one number after another
pub joined_more : (P : ℕ → Type 0) (b : ℕ) {old mid new : Type 0} → (mid ↔ (old ⊎ ((x : ℕ) × ((x < b) × P x)))) → (new ↔ (mid ⊎ P b))
    → (new ↔ (old ⊎ ((x : ℕ) × ((x < b + 1) × P x))))
joined_more P b h k = (
  λ n. elim (k.0 n) [ inl m ↦ (elim (h.0 m) [ inl o ↦ inl o | inr s ↦ inr ((some_more P b).1 (inl s)) ]) | inr p ↦ inr ((some_more P b).1 (inr p)) ],
  λ s. elim s [ inl o ↦ k.1 (inl (h.1 (inl o))) | inr t ↦ (elim ((some_more P b).0 t) [ inl u ↦ k.1 (inl (h.1 (inr u))) | inr p ↦ k.1 (inr p) ]) ],
)

-- and at its end, where it holds of no other number
pub joined_all : (P : ℕ → Type 0) (n b : ℕ) {old new : Type 0} → n ≤ b → ((x : ℕ) → P x → x < n) → (new ↔ (old ⊎ ((x : ℕ) × ((x < b) × P x)))) → new ↔ (old ⊎ ((x : ℕ) × P x))
joined_all P n b l within h = (
  λ x. elim (h.0 x) [ inl o ↦ inl o | inr s ↦ inr (s.0, s.1.1) ],
  λ s. elim s [ inl o ↦ h.1 (inl o) | inr p ↦ (let m = within p.0 p.1 in h.1 (inr (p.0, (omega (arith, m, l), p.1)))) ],
)
