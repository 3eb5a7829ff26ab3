-- Facts are told apart.
use Rattle.std.proofs.Common.{◌≡◌, ◌⊎◌, inl, inr, ℕ, zero, suc, refl, sym, ap, ◌∙◌}
use Rattle.std.proofs.lemmas.Bool.{cases_eq}
use Rattle.summary_rows.specs.Facts.{Part, Returning, Reading, Writing, Keeping, Depending, Fact, part_no}

first_no : Part → ℕ
first_no Returning = 0
first_no (Reading v) = v
first_no (Writing v) = v
first_no (Keeping v) = v
first_no (Depending v w) = v

second_no : Part → ℕ
second_no Returning = 0
second_no (Reading v) = 0
second_no (Writing v) = 0
second_no (Keeping v) = 0
second_no (Depending v w) = w

part_of : ℕ → ℕ → ℕ → Part
part_of zero v w = Returning
part_of (suc zero) v w = Reading v
part_of (suc (suc zero)) v w = Writing v
part_of (suc (suc (suc zero))) v w = Keeping v
part_of (suc (suc (suc (suc k)))) v w = Depending v w

again : (x : Part) → part_of (part_no x) (first_no x) (second_no x) ≡ x
unfolding part_of first_no second_no
again Returning = refl
again (Reading v) = refl
again (Writing v) = refl
again (Keeping v) = refl
again (Depending v w) = refl

same_part : (x y : Part) → (x ≡ y) ⊎ (x ≡ y → ⊥)
same_part x y = elim (cases_eq (part_no x) (part_no y)) [
  | inl a ↦ (elim (cases_eq (first_no x) (first_no y)) [
    | inl b ↦ (elim (cases_eq (second_no x) (second_no y)) [
      | inl c ↦ inl (sym (again x) ∙ (λ i. part_of (a i) (b i) (c i)) ∙ again y)
      | inr n ↦ inr (λ e. n (ap second_no e))
    ])
    | inr n ↦ inr (λ e. n (ap first_no e))
  ])
  | inr n ↦ inr (λ e. n (ap part_no e))
]

pub same_fact : (f g : Fact) → (f ≡ g) ⊎ (f ≡ g → ⊥)
same_fact f g = elim (cases_eq f.owner g.owner) [
  | inl a ↦ (elim (same_part f.part g.part) [
    | inl b ↦ inl (λ i. record { owner = a i; part = b i })
    | inr n ↦ inr (λ e. n (ap (λ (h : Fact). h.part) e))
  ])
  | inr n ↦ inr (λ e. n (ap (λ (h : Fact). h.owner) e))
]
