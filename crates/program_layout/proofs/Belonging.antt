-- The homes of leaves.
use Rattle.std.proofs.Common.{◌≡◌, ℕ, ◌<◌, ◌≤◌, ◌⊎◌, ◌↔◌, None, Some, Option, List, Bool, true, false, length, get_or, inl, inr, refl, sym, subst, ◌∙◌}
use Rattle.std.proofs.lemmas.Bool.{cases_lt, false≢true}
use Rattle.std.proofs.lemmas.List.{get_or_past}
use Rattle.std.proofs.lemmas.Option.{slice_get_past}
use Rattle.std.specs.Prelude.{IsSomeAnd, slice_get}
use Rattle.spark_base.specs.declared.numbers.BodyNo.{BodyNo}
use Rattle.core_form.specs.declared.program.Home.{Home}
use Rattle.core_form.specs.declared.program.Program.{Program}
use Rattle.core_form.specs.Fine.{home_of}
use Rattle.flow_relations.specs.Equation.{IsPassed}

pub no_home : (p : Program) (v : ℕ) → length p.leaves ≤ v → home_of p v ≡ None
no_home p v g = rw (slice_get_past p.leaves v g, home_of) refl

pub home_within : (p : Program) (v : ℕ) (F : Home → Type 0) → IsSomeAnd (home_of p v) F → v < length p.leaves
home_within p v F h = elim (cases_lt v (length p.leaves)) [
  | inl l ↦ l
  | inr g ↦ absurd (subst (λ (o : Option Home). IsSomeAnd o F) (no_home p v g) h)
]

passed_by : (home : Home) (of : BodyNo) → (home ≡ Home.Formal of) ⊎ (home ≡ Home.Outcome of) → (b : ℕ) → (b ≡ of.0) ↔ IsPassed b home
passed_by home of s b = elim s [
  | inl e ↦ rw e (λ d. sym d, λ d. sym d)
  | inr e ↦ rw e (λ d. sym d, λ d. sym d)
]

-- of whom a leaf is one of a formal or the result
pub passed_at : (p : Program) (leaf : ℕ) (home : Home) (of : BodyNo) → home_of p leaf ≡ Some home → (home ≡ Home.Formal of) ⊎
    (home ≡ Home.Outcome of) → (v b : ℕ)
    → ((b ≡ of.0) × (leaf ≡ v)) ↔ ((v ≡ leaf) × IsSomeAnd (home_of p v) (IsPassed b))
passed_at p leaf home of at s v b = (
  λ t. (
    sym t.1,
    subst (λ (k : ℕ). IsSomeAnd (home_of p k) (IsPassed b)) t.1
        (subst (λ (o : Option Home). IsSomeAnd o (IsPassed b)) (sym at) ((passed_by home of s b).0 t.0)),
  ),
  λ t. (
    (passed_by home of s b).1 (subst (λ (o : Option Home). IsSomeAnd o (IsPassed b)) at
        (subst (λ (k : ℕ). IsSomeAnd (home_of p k) (IsPassed b)) t.0 t.1)),
    sym t.0,
  ),
)

-- a flag that is set stands within the list
pub flag_within : (flags : List Bool) (v : ℕ) → get_or flags v false ≡ true → v < length flags
flag_within flags v h = elim (cases_lt v (length flags)) [
  | inl l ↦ l
  | inr g ↦ absurd (false≢true (sym (get_or_past flags v false g) ∙ h))
]
