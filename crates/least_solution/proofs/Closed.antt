-- The least solution meets the equation, where each fact of the equation comes of finitely many facts.
use Rattle.std.proofs.Common.{◌≡◌, ℕ, zero, suc, ◌≤◌, ◌⊎◌, List, [], ◌∷◌, ◌++◌, length, refl, inl, inr, arith, sym, ap, subst, ◌∙◌}
use Rattle.least_solution.proofs.Applied.{applied_up}
use Rattle.least_solution.proofs.Members.{among_left, among_right}
use Rattle.least_solution.specs.Least.{applied, least, Among, IsListed, Grows, IsFinite}

abbrev pub Within : {A : Type 0} → List A → List A → Type 0
Within {A = A} xs ys = (x : A) → Among x xs → Among x ys

abbrev pub IsDistinct : {A : Type 0} → List A → Type 0
IsDistinct [] = Unit {0}
IsDistinct (x ∷ xs) = (Among x xs → ⊥) × IsDistinct xs

-- a list without one place where x stands
without : {A : Type 0} (x : A) (ys : List A) → Among x ys → (zs : List A) × (suc (length zs) ≡ length ys) × ((y : A) → Among y ys → (y ≡ x → ⊥) → Among y zs)
without x [] a = absurd a
without x (y ∷ ys) (inl e) = (ys, refl, λ z b n. elim b [ inl d ↦ absurd (n (d ∙ sym e)) | inr c ↦ c ])
without x (y ∷ ys) (inr a) =
    let r = without x ys a in
    let l : suc (suc (length r.0)) ≡ suc (length ys) = ap suc r.1 in
    (y ∷ r.0, l, λ z b n. elim b [ inl d ↦ inl d | inr c ↦ inr (r.2 z c n) ])

-- distinct elements of a list are no more than it has
distinct_most : {A : Type 0} (xs ys : List A) → IsDistinct xs → Within xs ys → length xs ≤ length ys
distinct_most [] ys d w = omega arith
distinct_most (x ∷ xs) ys d w =
    let r = without x ys (w x (inl refl)) in
    let h = distinct_most xs r.0 d.1 (λ y a. r.2 y (w y (inr a)) (λ e. d.0 (subst (λ z. Among z xs) e a))) in
    let e = r.1 in omega arith

module _ {Fact : Type 0} (all : List Fact) (F : (Fact → Type 0) → Fact → Type 0)
    (same : (f g : Fact) → (f ≡ g) ⊎ (f ≡ g → ⊥))
    (listed : IsListed all F) (grows : Grows F) (finite : IsFinite F) where
  -- each fact of the list comes of those behind it
  abbrev pub IsBuilt : List Fact → Type 0
  IsBuilt [] = Unit {0}
  IsBuilt (f ∷ fs) = F (λ g. Among g fs) f × IsBuilt fs

  built_join : (xs ys : List Fact) → IsBuilt xs → IsBuilt ys → IsBuilt (xs ++ ys)
  built_join [] ys b c = c
  built_join (x ∷ xs) ys b c = (grows (λ g. Among g xs) (λ g. Among g (xs ++ ys)) x (λ g. among_left g xs ys) b.0, built_join xs ys b.1 c)

  built_applied : (xs : List Fact) → IsBuilt xs → (f : Fact) → Among f xs → applied F (length xs) f
  built_applied [] b f a = absurd a
  built_applied (x ∷ xs) b f (inl e) =
      subst (λ z. applied F (suc (length xs)) z) (sym e) (grows (λ g. Among g xs) (applied F (length xs)) x (built_applied xs b.1) b.0)
  built_applied (x ∷ xs) b f (inr a) = let h : length xs ≤ suc (length xs) = omega arith in applied_up F grows (length xs) (suc (length xs)) h f (built_applied xs b.1 f a)

  amongst : (f : Fact) (xs : List Fact) → Among f xs ⊎ (Among f xs → ⊥)
  amongst f [] = inr (λ a. a)
  amongst f (x ∷ xs) = elim (same f x) [
    | inl e ↦ inl (inl e)
    | inr n ↦ (elim (amongst f xs) [ inl a ↦ inl (inr a) | inr m ↦ inr (λ a. elim a [ inl e ↦ n e | inr b ↦ m b ]) ])
  ]

  -- the same facts, each once
  tidy : (xs : List Fact) → IsBuilt xs → (ys : List Fact) × IsBuilt ys × IsDistinct ys × Within xs ys × Within ys xs
  tidy [] b = ([], tt, tt, λ x a. a, λ x a. a)
  tidy (x ∷ xs) b =
      let r = tidy xs b.1 in
      elim (amongst x xs) [
        | inl a ↦ (r.0, r.1, r.2, (λ y c. elim c [ inl e ↦ subst (λ z. Among z r.0) (sym e) (r.3 x a) | inr d ↦ r.3 y d ]), (λ y c. inr (r.4 y c)))
        | inr n ↦ (
          x ∷ r.0,
          (grows (λ g. Among g xs) (λ g. Among g r.0) x r.3 b.0, r.1),
          ((λ a. n (r.4 x a)), r.2),
          (λ y c. elim c [ inl e ↦ inl e | inr d ↦ inr (r.3 y d) ]),
          (λ y c. elim c [ inl e ↦ inl e | inr d ↦ inr (r.4 y d) ]),
        )
      ]

  abbrev Comes : Fact → Type 0
  Comes f = (xs : List Fact) × IsBuilt xs × Among f xs

  gather : (few : List Fact) → ((g : Fact) → Among g few → Comes g) → (xs : List Fact) × IsBuilt xs × Within few xs
  gather [] h = ([], tt, λ g a. a)
  gather (f ∷ few) h =
      let a = h f (inl refl) in
      let r = gather few (λ g b. h g (inr b)) in (
        a.0 ++ r.0,
        built_join a.0 r.0 a.1 r.1,
        λ g b. elim b [
          | inl e ↦ among_left g a.0 r.0 (subst (λ z. Among z a.0) (sym e) a.2)
          | inr c ↦ among_right g a.0 r.0 (r.2 g c)
        ],
      )

  comes : (n : ℕ) (f : Fact) → applied F n f → Comes f
  comes zero f x = absurd x
  comes (suc n) f x =
      let s = finite (applied F n) f x in
      let r = gather s.0 (λ g a. comes n g (s.1 g a)) in
      (f ∷ r.0, (grows (λ g. Among g s.0) (λ g. Among g r.0) f r.2 s.2, r.1), inl refl)

  all_listed : (xs : List Fact) → IsBuilt xs → Within xs all
  all_listed [] b f a = absurd a
  all_listed (x ∷ xs) b f (inl e) = subst (λ z. Among z all) (sym e) (listed (λ g. Among g xs) x b.0)
  all_listed (x ∷ xs) b f (inr a) = all_listed xs b.1 f a

  -- further applications make nothing more
  pub applied_least : (n : ℕ) (f : Fact) → applied F n f → least all F f
  applied_least n f x =
      let c = comes n f x in
      let t = tidy c.0 c.1 in
      applied_up F grows (length t.0) (length all) (distinct_most t.0 all t.2 (all_listed t.0 t.1)) f (built_applied t.0 t.1 f (t.3 f c.2))

  -- the least solution meets the equation
  pub least_closed : (f : Fact) → F (least all F) f → least all F f
  least_closed f x = applied_least (suc (length all)) f x
