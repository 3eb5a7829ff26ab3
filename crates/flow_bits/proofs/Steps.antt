-- One more step of a loop that joins sets.
use Rattle.std.proofs.Common.{◌≡◌, ℕ, ◌+◌, ◌*◌, ◌<◌, ◌≤◌, ◌⊎◌, ◌↔◌, Bool, List, inl, inr, arith, subst}
use Rattle.std.proofs.lemmas.Bool.{cases_lt}
use Rattle.flow_bits.specs.Sets.{Has, Gains, Relates, GainsPair}

at_one : (b x : ℕ) → x < b + 1 → (x < b) ⊎ (x ≡ b)
at_one b x h = elim (cases_lt x b) [ inl l ↦ inl l | inr g ↦ (let e : x ≡ b = omega arith in inr e) ]

-- what holds for some number up to b: for one below b, or for b
pub some_more : (P : ℕ → Type 0) (b : ℕ) → ((x : ℕ) × (x < b + 1) × P x) ↔ (((x : ℕ) × (x < b) × P x) ⊎ P b)
some_more P b = (
  λ s. elim (at_one b s.0 s.1) [ inl l ↦ inl (s.0, l, s.2) | inr e ↦ inr (subst P e s.2) ],
  λ s. elim s [ inl t ↦ (let l : t.0 < b + 1 = omega arith in (t.0, l, t.2)) | inr p ↦ (let l : b < b + 1 = omega arith in (b, l, p)) ],
)

pub union_more : (P : ℕ → Type 0) (b : ℕ) {old mid new : Type 0} → (mid ↔ (old ⊎ ((x : ℕ) × (x < b) × P x))) → (new ↔ (mid ⊎ P b)) → (new ↔ (old ⊎ ((x : ℕ) × (x < b + 1) × P x)))
union_more P b h k = (
  λ n. elim (k.0 n) [ inl m ↦ (elim (h.0 m) [ inl o ↦ inl o | inr s ↦ inr ((some_more P b).1 (inl s)) ]) | inr p ↦ inr ((some_more P b).1 (inr p)) ],
  λ s. elim s [ inl o ↦ k.1 (inl (h.1 (inl o))) | inr t ↦ (elim ((some_more P b).0 t) [ inl u ↦ k.1 (inl (h.1 (inr u))) | inr p ↦ k.1 (inr p) ]) ],
)

-- a gain at the first of two steps, and at the second
pub gains_first : (a b c : List Bool) → Gains a b → ((v : ℕ) → Has b v → Has c v) → Gains a c
gains_first a b c g h = (g.0, g.1, h g.0 g.2)

pub gains_second : (a b c : List Bool) → ((v : ℕ) → Has a v → Has b v) → Gains b c → Gains a c
gains_second a b c h g = (g.0, λ x. g.1 (h g.0 x), g.2)

-- what holds of the numbers up to a: of those below a, and of a
pub rows_more : (a x : ℕ) {P old mid new : Type 0} → (mid ↔ (old ⊎ ((x < a) × P))) → (new ↔ (mid ⊎ ((x ≡ a) × P))) → (new ↔ (old ⊎ ((x < a + 1) × P)))
rows_more a x h k = (
  λ n. elim (k.0 n) [ inl m ↦ (elim (h.0 m) [ inl o ↦ inl o | inr s ↦ (let l : x < a + 1 = omega (arith, s.0) in inr (l, s.1)) ]) | inr p ↦ (let l : x < a + 1 = omega (arith, p.0) in inr (l, p.1)) ],
  λ s. elim s [ inl o ↦ k.1 (inl (h.1 (inl o))) | inr t ↦ (elim (at_one a x t.0) [ inl l ↦ k.1 (inl (h.1 (inr (l, t.1)))) | inr e ↦ k.1 (inr (e, t.1)) ]) ],
)

pub pairs_first : (a b c : List (List Bool)) → GainsPair a b → ((v w : ℕ) → Relates b v w → Relates c v w) → GainsPair a c
pairs_first a b c g h = (g.0, g.1, g.2, h g.0 g.1 g.3)

pub pairs_second : (a b c : List (List Bool)) → ((v w : ℕ) → Relates a v w → Relates b v w) → GainsPair b c → GainsPair a c
pairs_second a b c h g = (g.0, g.1, λ x. g.2 (h g.0 g.1 x), g.3)

-- after the last row
pub rows_done : (a n x : ℕ) {P old new : Type 0} → n ≤ a → (P → x < n) → (new ↔ (old ⊎ ((x < a) × P))) → new ↔ (old ⊎ P)
rows_done a n x l b h = (
  λ r. elim (h.0 r) [ inl o ↦ inl o | inr s ↦ inr s.1 ],
  λ s. elim s [ inl o ↦ h.1 (inl o) | inr p ↦ (let m : x < a = omega (arith, l, b p) in h.1 (inr (m, p))) ],
)

-- what holds of some number below the next word: below this one, or of this one
pub word_more : (P : ℕ → Type 0) (k : ℕ) {old mid new : Type 0} → (mid ↔ (old ⊎ ((b : ℕ) × (b < 64 * k) × P b)))
    → (new ↔ (mid ⊎ ((b : ℕ) × (b < 64 * k + 64) × ((64 * k ≤ b) × P b)))) → new ↔ (old ⊎ ((b : ℕ) × (b < 64 * (k + 1)) × P b))
word_more P k h s = (
  λ n. elim (s.0 n) [
    | inl m ↦ (elim (h.0 m) [ inl o ↦ inl o | inr t ↦ (let l : t.0 < 64 * (k + 1) = omega (arith, t.1) in inr (t.0, l, t.2)) ])
    | inr t ↦ (let l : t.0 < 64 * (k + 1) = omega (arith, t.1) in inr (t.0, l, t.2.1))
  ],
  λ n. elim n [
    | inl o ↦ s.1 (inl (h.1 (inl o)))
    | inr t ↦ (elim (cases_lt t.0 (64 * k)) [
      | inl l ↦ s.1 (inl (h.1 (inr (t.0, l, t.2))))
      | inr g ↦ (let l : t.0 < 64 * k + 64 = omega (arith, t.1) in s.1 (inr (t.0, l, (g, t.2))))
    ])
  ],
)
