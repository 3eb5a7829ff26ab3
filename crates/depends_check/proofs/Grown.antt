-- Lists that grow as sets.
use Rattle.std.proofs.Common.{◌≡◌, ℕ, zero, suc, ◌+◌, ◌<◌, ◌⊎◌, ◌↔◌, inl, inr, List, [], ◌∷◌, Option, Some, None, length, take, refl, sym, subst, add-one, arith}
use Rattle.std.specs.Prelude.{IsSomeAnd, slice_get}
use Rattle.std.proofs.lemmas.Option.{slice_get_within}
use Rattle.core_form.specs.declared.program.Item.{Item}
use Rattle.used_modes.specs.Added.{Adds, SomeOf}
use Rattle.used_modes.proofs.Adding.{adds_both, adds_none, adds_same}

module _ {X : Type 0} where
  -- what passes once more is added
  pub with_fact : (xs ys : List X) (T : Type 0) (P : X → Type 0) → T → Adds xs ys P → Adds xs ys (λ x. T × P x)
  with_fact xs ys T P t a = adds_same xs ys P (λ x. T × P x) a (λ x. (λ p. (t, p), λ h. h.1))

  pub some_map : (P Q : X → Type 0) → ((x : X) → P x → Q x) → (xs : List X) → SomeOf P xs → SomeOf Q xs
  some_map P Q f [] h = h
  some_map P Q f (x ∷ xs) (inl p) = inl (f x p)
  some_map P Q f (x ∷ xs) (inr h) = inr (some_map P Q f xs h)

  pub and_map : (P Q : X → Type 0) → ((x : X) → P x → Q x) → (o : Option X) → IsSomeAnd o P → IsSomeAnd o Q
  and_map P Q f None h = h
  and_map P Q f (Some x) h = f x h

  -- the element at a place, and those before it
  some_taken_suc : (P : X → Type 0) (xs : List X) (k : ℕ) (x : X) → slice_get xs k ≡ Some x → (SomeOf P (take k xs) ⊎ P x) ↔ SomeOf P
      (take (suc k) xs)
  some_taken_suc P [] k x e = let n : Option X = None in let z : n ≡ Some x = e in absurd cc
  some_taken_suc P (y ∷ ys) zero x e =
      let z : Some y ≡ Some x = e in
      let q : y ≡ x = cc in (
        λ h. elim h [ inl n ↦ absurd n | inr p ↦ inl (subst P (sym q) p) ],
        λ h. elim h [ inl p ↦ inr (subst P q p) | inr n ↦ absurd n ],
      )
  some_taken_suc P (y ∷ ys) (suc k) x e =
      let r = some_taken_suc P ys k x e in (
        λ h. elim h [ inl a ↦ (elim a [ inl p ↦ inl p | inr s ↦ inr (r.0 (inl s)) ]) | inr p ↦ inr (r.0 (inr p)) ],
        λ h. elim h [ inl p ↦ inl (inl p) | inr s ↦ (elim (r.1 s) [ inl t ↦ inl (inr t) | inr p ↦ inr p ]) ],
      )

  pub some_taken : (P : X → Type 0) (xs : List X) (k : ℕ) (x : X) → slice_get xs k ≡ Some x → (SomeOf P (take k xs) ⊎ P x) ↔ SomeOf P
      (take (k + 1) xs)
  some_taken P xs k x e = rw add-one (some_taken_suc P xs k x e)

  at_within : (xs : List X) (k : ℕ) (F : X → Type 0) (o : Option X) → slice_get xs k ≡ o → IsSomeAnd o F → k < length xs
  at_within xs k F None e h = absurd h
  at_within xs k F (Some x) e h = slice_get_within xs k x e

  pub within : (xs : List X) (k : ℕ) (F : X → Type 0) → IsSomeAnd (slice_get xs k) F → k < length xs
  within xs k F h = at_within xs k F (slice_get xs k) refl h

  pub and_at : (F : X → Type 0) (o : Option X) (x : X) → o ≡ Some x → F x ↔ IsSomeAnd o F
  and_at F o x e = (λ h. subst (λ r. IsSomeAnd r F) (sym e) h, λ h. subst (λ r. IsSomeAnd r F) e h)

-- Numbers below a bound

below_or_at : (k n : ℕ) → k < n + 1 → (k < n) ⊎ (k ≡ n)
below_or_at zero zero l = inr refl
below_or_at zero (suc n) l = inl (omega arith)
below_or_at (suc k) zero l = absurd (omega (arith, l))
below_or_at (suc k) (suc n) l =
    let m : k < n + 1 = omega (arith, l) in
    elim (below_or_at k n m) [ inl s ↦ inl (omega (arith, s)) | inr e ↦ inr (omega (arith, e)) ]

module _ {Y : Type 0} (P : ℕ → Y → Type 0) where
  pub below_none : (old : List Y) → Adds old old (λ y. (k : ℕ) × ((k < 0) × P k y))
  below_none old = adds_none old (λ y. (k : ℕ) × ((k < 0) × P k y)) (λ y h. let l : h.0 < 0 = h.1.0 in omega (arith, l))

  pub below_more : (old now new : List Y) (n : ℕ) → Adds old now (λ y. (k : ℕ) × ((k < n) × P k y)) → Adds now new (P n)
      → Adds old new (λ y. (k : ℕ) × ((k < n + 1) × P k y))
  below_more old now new n a b =
      adds_same old new (λ y. ((k : ℕ) × ((k < n) × P k y)) ⊎ P n y) (λ y. (k : ℕ) × ((k < n + 1) × P k y))
      (adds_both old now new (λ y. (k : ℕ) × ((k < n) × P k y)) (P n) a b) (λ y. (
        λ h. elim h [ inl u ↦ (let l : u.0 < n = u.1.0 in (u.0, (omega (arith, l), u.1.1))) | inr p ↦ (n, (omega arith, p)) ],
        λ h. elim (below_or_at h.0 n h.1.0) [ inl l ↦ inl (h.0, (l, h.1.1)) | inr e ↦ inr (subst (λ k. P k y) e h.1.1) ],
      ))

  pub all_below : (old new : List Y) (n : ℕ) → ((k : ℕ) (y : Y) → P k y → k < n) → Adds old new (λ y. (k : ℕ) × ((k < n) × P k y))
      → Adds old new (λ y. (k : ℕ) × P k y)
  all_below old new n l a = adds_same old new (λ y. (k : ℕ) × ((k < n) × P k y)) (λ y. (k : ℕ) × P k y) a (λ y. (
    λ h. (h.0, h.1.1),
    λ h. (h.0, (l h.0 y h.1, h.1)),
  ))

-- One that is there, if any

module _ (r : Option Item) (U : Item → Type 0) (tells : (i : Item) → (r ≡ Some i) ↔ U i) where
  pub noted : (xs ys : List Item) → Adds xs ys (λ i. r ≡ Some i) → Adds xs ys U
  noted xs ys a = adds_same xs ys (λ i. r ≡ Some i) U a tells
