-- One moment more.
use Rattle.std.proofs.Common.{◌≡◌, ◌∙◌, ℕ, zero, suc, ◌+◌, ◌<◌, ◌≤◌, ◌↔◌, inl, inr, List, [], ◌∷◌, ◌++◌, Bool, Option, Some, None, length, refl, sym, subst, add-one, arith}
use Rattle.std.specs.Prelude.{IsSomeAnd, slice_get, slice_index_or}
use Rattle.std.proofs.lemmas.Bool.{cases_lt}
use Rattle.std.proofs.lemmas.List.{get_or_append_left, get_or_push}
use Rattle.std.proofs.lemmas.Option.{slice_get_within}
use Rattle.core_form.specs.declared.program.Home.{Home}
use Rattle.core_form.specs.declared.program.Leaf.{Leaf}
use Rattle.core_form.specs.declared.program.Program.{Program}
use Rattle.flow_bits.specs.Sets.{Has, Tells}
use Rattle.unset_moments.specs.declared.endings.Ending.{Ending}
use Rattle.unset_moments.specs.Moments.{IsPackageHome, loose_after, loose_before, loose_behind, loose_first}

-- a leaf of a package is one of the program's
abbrev home_at : Program → Option Leaf → Option Home
home_at p o = elim o [ None ↦ None | Some l ↦ (elim (slice_get p.vars l.var.0) [ None ↦ None | Some v ↦ Some v.home ]) ]

within : (p : Program) (v : ℕ) (o : Option Leaf) → slice_get p.leaves v ≡ o → IsSomeAnd (home_at p o) IsPackageHome → v < length p.leaves
within p v None is h = absurd h
within p v (Some l) is h = slice_get_within p.leaves v l is

pub first_within : (p : Program) (v : ℕ) → loose_first p v → v < length p.leaves
first_within p v h = within p v (slice_get p.leaves v) refl h

after_same : (e : Ending) (a b : ℕ → Type 0) → ((v : ℕ) → a v ↔ b v) → (v : ℕ) → loose_after e a v ↔ loose_after e b v
after_same e a b same v = (
  λ h. elim h [ inl d ↦ inl d | inr k ↦ inr (k.0, ((same v).0 k.1.0, k.1.1)) ],
  λ h. elim h [ inl d ↦ inl d | inr k ↦ inr (k.0, ((same v).1 k.1.0, k.1.1)) ],
)

module _ (p : Program) (items : List Ending) where
  pub one_moment : (n : ℕ) (e : Ending) → slice_get items n ≡ Some e → (now : List Bool) → Tells now (loose_before p items n)
      → (next : List Bool) → Tells next (loose_after e (Has now)) → Tells next (loose_before p items (n + 1))
  one_moment n e is now told next behind = rw add-one (subst (λ o. Tells next (loose_behind o (loose_before p items n))) (sym is) (λ v.
      let same = after_same e (Has now) (loose_before p items n) told v in (
        λ h. same.0 ((behind v).0 h),
        λ h. (behind v).1 (same.1 h),
      )))

  pub begun : (row : List Bool) → Tells row (loose_first p) → (k : ℕ) → k ≤ 0 → Tells (slice_index_or (row ∷ []) k []) (loose_before p items k)
  begun row told zero l = told
  begun row told (suc k) l = absurd (omega (arith, l))

  pub pushed : (rows : List (List Bool)) (n : ℕ) → length rows ≡ n + 1 → ((k : ℕ) → k ≤ n → Tells (slice_index_or rows k []) (loose_before p
      items k))
      → (row : List Bool) → Tells row (loose_before p items (n + 1))
      → (k : ℕ) → k ≤ n + 1 → Tells (slice_index_or (rows ++ row ∷ []) k []) (loose_before p items k)
  pushed rows n count all row told k l = elim (cases_lt k (n + 1)) [
    | inl below ↦ (
        let m : k < length rows = omega (arith, below, count) in
        let j : k ≤ n = omega (arith, below) in
        subst (λ r. Tells r (loose_before p items k)) (sym (get_or_append_left rows (row ∷ []) [] k m)) (all k j))
    | inr above ↦ (
        let e : n + 1 ≡ k = omega (arith, above, l) in
        subst (λ i. Tells (slice_index_or (rows ++ row ∷ []) i []) (loose_before p items i)) e
        (subst (λ r. Tells r (loose_before p items (n + 1))) (sym (get_or_push rows row [] (n + 1) count)) told))
  ]
