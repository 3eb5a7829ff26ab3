-- Callees that are added one after another.
use Rattle.std.proofs.Common.{ℕ, ◌<◌, ◌⊎◌, ◌↔◌, List, length, inl, inr}
use Rattle.std.proofs.lemmas.Bool.{cases_lt}
use Rattle.std.proofs.lemmas.Option.{slice_get_past}
use Rattle.std.specs.Prelude.{IsSomeAnd, slice_get}

-- one after another, to what was there
pub added_both : {old mid new A B : Type 0} → (mid ↔ (old ⊎ A)) → (new ↔ (mid ⊎ B)) → (new ↔ (old ⊎ (A ⊎ B)))
added_both h k = (
  λ n. elim (k.0 n) [ inl m ↦ (elim (h.0 m) [ inl o ↦ inl o | inr a ↦ inr (inl a) ]) | inr b ↦ inr (inr b) ],
  λ s. elim s [
    | inl o ↦ k.1 (inl (h.1 (inl o)))
    | inr t ↦ (elim t [ inl a ↦ k.1 (inl (h.1 (inr a))) | inr b ↦ k.1 (inr b) ])
  ],
)

-- the first of what is left is added
pub added_first : {all mid new A B : Type 0} → ((mid ⊎ (A ⊎ B)) ↔ all) → (new ↔ (mid ⊎ A)) → ((new ⊎ B) ↔ all)
added_first h k = (
  λ s. elim s [
    | inl n ↦ (elim (k.0 n) [ inl m ↦ h.0 (inl m) | inr a ↦ h.0 (inr (inl a)) ])
    | inr b ↦ h.0 (inr (inr b))
  ],
  λ t. elim (h.1 t) [
    | inl m ↦ inl (k.1 (inl m))
    | inr u ↦ (elim u [ inl a ↦ inl (k.1 (inr a)) | inr b ↦ inr b ])
  ],
)

-- nothing is added, or nothing is left
pub added_none : {new A : Type 0} → (A → ⊥) → (new ↔ (new ⊎ A))
added_none none = (λ n. inl n, λ s. elim s [ inl n ↦ n | inr a ↦ absurd (none a) ])

pub none_left : {new all A : Type 0} → (A → ⊥) → ((new ⊎ A) ↔ all) → (new ↔ all)
none_left none h = (λ n. h.0 (inl n), λ t. elim (h.1 t) [ inl n ↦ n | inr a ↦ absurd (none a) ])

-- to no list
pub added_to_none : {new old A : Type 0} → (old → ⊥) → (new ↔ (old ⊎ A)) → (new ↔ A)
added_to_none none h = (λ n. elim (h.0 n) [ inl o ↦ absurd (none o) | inr a ↦ a ], λ a. h.1 (inr a))

-- what stands in a list stands within it
pub within : {X : Type 0} (xs : List X) (k : ℕ) (F : X → Type 0) → IsSomeAnd (slice_get xs k) F → k < length xs
within xs k F h = elim (cases_lt k (length xs)) [ inl l ↦ l | inr g ↦ absurd (rw (slice_get_past xs k g) at h) ]

-- by two steps
pub through : {A B C : Type 0} → (A ↔ B) → (B ↔ C) → (A ↔ C)
through h k = (λ a. k.0 (h.0 a), λ c. h.1 (k.1 c))

pub flipped : {A B : Type 0} → (A ↔ B) → (B ↔ A)
flipped h = (h.1, h.0)
