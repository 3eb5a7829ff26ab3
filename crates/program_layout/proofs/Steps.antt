-- What loops over bodies, leaves and callers add, one step after another.
use Rattle.std.proofs.Common.{◌≡◌, ℕ, ◌+◌, ◌<◌, ◌⊎◌, ◌↔◌, List, [], length, get_or, inl, inr, arith, subst, sym, ◌∙◌}
use Rattle.std.proofs.lemmas.Bool.{cases_lt}
use Rattle.std.proofs.lemmas.List.{get_or_default}
use Rattle.spark_base.specs.declared.numbers.BodyNo.{BodyNo}

-- of numbers below a bound
pub one_more : (x i : ℕ) {B old mid new : Type 0} → (mid ↔ (old ⊎ ((x < i) × B))) → (new ↔ (mid ⊎ ((x ≡ i) × B))) →
    (new ↔ (old ⊎ ((x < i + 1) × B)))
one_more x i h k = (
  λ n. elim (k.0 n) [
    | inl m ↦ (elim (h.0 m) [ inl o ↦ inl o | inr t ↦ inr ((let l = t.0 in omega (arith, l)), t.1) ])
    | inr t ↦ inr ((let e = t.0 in omega (arith, e)), t.1)
  ],
  λ s. elim s [
    | inl o ↦ k.1 (inl (h.1 (inl o)))
    | inr t ↦ (elim (cases_lt x i) [
      | inl l ↦ k.1 (inl (h.1 (inr (l, t.1))))
      | inr g ↦ k.1 (inr ((let l = t.0 in omega (arith, l, g)), t.1))
    ])
  ],
)

-- all were gone through
pub all_of : {A B old now : Type 0} → (now ↔ (old ⊎ (A × B))) → (B → A) → (now ↔ (old ⊎ B))
all_of h k = (
  λ n. elim (h.0 n) [ inl o ↦ inl o | inr t ↦ inr t.1 ],
  λ s. elim s [ inl o ↦ h.1 (inl o) | inr b ↦ h.1 (inr (k b, b)) ],
)

-- the same is added, in other words
pub alike : {A B old new : Type 0} → (new ↔ (old ⊎ A)) → (A → B) → (B → A) → (new ↔ (old ⊎ B))
alike h f g = (
  λ n. elim (h.0 n) [ inl o ↦ inl o | inr a ↦ inr (f a) ],
  λ s. elim s [ inl o ↦ h.1 (inl o) | inr b ↦ h.1 (inr (g b)) ],
)

-- of a number below a bound of which both hold
pub some_more : (i : ℕ) (R S : ℕ → Type 0) {L N old mid new : Type 0} → (mid ↔ (old ⊎ (L × ((c : ℕ) × ((c < i) × (R c × S c)))))) →
    (new ↔ (mid ⊎ ((L × S i) × N)))
    → (N ↔ R i) → (new ↔ (old ⊎ (L × ((c : ℕ) × ((c < i + 1) × (R c × S c))))))
some_more i R S h k r = (
  λ n. elim (k.0 n) [
    | inl m ↦ (elim (h.0 m) [ inl o ↦ inl o | inr t ↦ inr (t.0, (t.1.0, ((let l = t.1.1.0 in omega (arith, l)), t.1.1.1))) ])
    | inr t ↦ inr (t.0.0, (i, (omega arith, (r.0 t.1, t.0.1))))
  ],
  λ s. elim s [
    | inl o ↦ k.1 (inl (h.1 (inl o)))
    | inr t ↦ (elim (cases_lt t.1.0 i) [
      | inl l ↦ k.1 (inl (h.1 (inr (t.0, (t.1.0, (l, t.1.1.1))))))
      | inr g ↦ (
          let e : t.1.0 ≡ i = (let l = t.1.1.0 in omega (arith, l, g)) in
          k.1 (inr ((t.0, subst S e t.1.1.1.1), r.1 (subst R e t.1.1.1.0))))
    ])
  ],
)

-- the same of one number
pub row_more : (c i : ℕ) (R S : ℕ → Type 0) {N mid new : Type 0} → (mid ↔ ((c < i) × (R c × S c))) → (new ↔ (mid ⊎ (((c ≡ i) × S i) × N)))
    → (N ↔ R i)
    → (new ↔ ((c < i + 1) × (R c × S c)))
row_more c i R S h k r = (
  λ n. elim (k.0 n) [
    | inl m ↦ (let t = h.0 m in ((let l = t.0 in omega (arith, l)), t.1))
    | inr t ↦ (
        let e = t.0.0 in
        (omega (arith, e), (subst R (sym e) (r.0 t.1), subst S (sym e) t.0.1)))
  ],
  λ t. elim (cases_lt c i) [
    | inl l ↦ k.1 (inl (h.1 (l, t.1)))
    | inr g ↦ (
        let e : c ≡ i = (let l = t.0 in omega (arith, l, g)) in
        k.1 (inr ((e, subst S e t.1.1), r.1 (subst R e t.1.0))))
  ],
)

-- the list of a body, by its place
pub own_list : (lists : List (List BodyNo)) (i : ℕ) (item slice : List BodyNo) → i < length lists → item ≡ get_or lists i item → slice ≡
    item → get_or lists i [] ≡ slice
own_list lists i item slice l is same = sym (same ∙ (is ∙ get_or_default lists i item [] l))
