-- Lists that grow as sets, one step behind another.
use Rattle.std.proofs.Common.{◌≡◌, ℕ, zero, suc, ◌+◌, ◌≤◌, ◌⊎◌, ◌↔◌, inl, inr, List, [], ◌∷◌, ◌++◌, length, drop, Option, Some, None, refl, ◌∙◌, sym, ap, subst, add-one, arith}
use Rattle.std.specs.Prelude.{slice_get}
use Rattle.std.specs.List.{Contains}
use Rattle.std.proofs.lemmas.List.Elements.{Contains-append_left, Contains-push, Contains-push_cases}
use Rattle.std.proofs.lemmas.Option.{slice_get-get_or}
use Rattle.used_modes.specs.Added.{Adds, SomeOf}

module _ {X : Type 0} where
  -- one element is pushed
  pub adds_one : (xs ys : List X) (x : X) → ys ≡ xs ++ x ∷ [] → Adds xs ys (λ y. y ≡ x)
  adds_one xs ys x e = record {
    same = λ y. (
      λ c. elim (Contains-push_cases xs x y (subst (λ zs. Contains zs y) e c)) [ inl o ↦ inl o | inr q ↦ inr (sym q) ],
      λ d. subst (λ zs. Contains zs y) (sym e) (elim d [ inl o ↦ Contains-append_left xs (x ∷ []) y o | inr q ↦ subst (λ z. Contains (xs ++ x ∷ []) z) (sym q) (Contains-push xs x) ]),
    );
  }

  -- one that is there already
  pub adds_there : (xs : List X) (x : X) → Contains xs x → Adds xs xs (λ y. y ≡ x)
  adds_there xs x there = record { same = λ y. (λ c. inl c, λ d. elim d [ inl o ↦ o | inr q ↦ subst (λ z. Contains xs z) (sym q) there ]) }

  -- nothing is added where nothing passes
  pub adds_none : (xs : List X) (P : X → Type 0) → ((x : X) → P x → ⊥) → Adds xs xs P
  adds_none xs P none = record { same = λ x. (λ c. inl c, λ d. elim d [ inl c ↦ c | inr h ↦ absurd (none x h) ]) }

  -- the same are meant
  pub adds_same : (xs ys : List X) (P Q : X → Type 0) → Adds xs ys P → ((x : X) → P x ↔ Q x) → Adds xs ys Q
  adds_same xs ys P Q a h = record {
    same = λ x. (
      λ c. elim ((a.same x).0 c) [ inl o ↦ inl o | inr p ↦ inr ((h x).0 p) ],
      λ d. elim d [ inl o ↦ (a.same x).1 (inl o) | inr q ↦ (a.same x).1 (inr ((h x).1 q)) ],
    );
  }

  -- some, and then some more
  pub adds_both : (xs ys zs : List X) (P Q : X → Type 0) → Adds xs ys P → Adds ys zs Q → Adds xs zs (λ x. P x ⊎ Q x)
  adds_both xs ys zs P Q a b = record {
    same = λ x. (
      λ c. elim ((b.same x).0 c) [ inl y ↦ (elim ((a.same x).0 y) [ inl o ↦ inl o | inr p ↦ inr (inl p) ]) | inr q ↦ inr (inr q) ],
      λ d. elim d [
        | inl o ↦ (b.same x).1 (inl ((a.same x).1 (inl o)))
        | inr e ↦ (elim e [ inl p ↦ (b.same x).1 (inl ((a.same x).1 (inr p))) | inr q ↦ (b.same x).1 (inr q) ])
      ],
    );
  }

-- Loops over a list: what was added, and what is left to be added, is what all of the list adds

pub record SoFar {X Y : Type 0} (old now : List Y) (P : X → Y → Type 0) (xs : List X) (i : ℕ) : Type 0 where
  pub all : (y : Y) → (Contains now y ⊎ SomeOf (λ x. P x y) (drop i xs)) ↔ (Contains old y ⊎ SomeOf (λ x. P x y) xs)

drop_get_suc : {A : Type 0} (xs : List A) (i : ℕ) (x : A) → slice_get xs i ≡ Some x → drop i xs ≡ x ∷ drop (suc i) xs
drop_get_suc [] zero x h = absurd cc
drop_get_suc [] (suc i) x h = absurd cc
drop_get_suc (y ∷ ys) zero x h = let e : y ≡ x = cc in ap (λ z. z ∷ ys) e
drop_get_suc (y ∷ ys) (suc i) x h = drop_get_suc ys i x h

drop_get : {A : Type 0} (xs : List A) (i : ℕ) (x : A) → slice_get xs i ≡ Some x → drop i xs ≡ x ∷ drop (i + 1) xs
drop_get xs i x h = rw add-one (drop_get_suc xs i x h)

drop_all : {A : Type 0} (xs : List A) (i : ℕ) → length xs ≤ i → drop i xs ≡ []
drop_all [] zero l = refl
drop_all [] (suc i) l = refl
drop_all (x ∷ xs) zero l = absurd (omega arith)
drop_all (x ∷ xs) (suc i) l = let k : length xs ≤ i = omega arith in drop_all xs i k

module _ {X Y : Type 0} (P : X → Y → Type 0) (xs : List X) where
  pub begun : (old : List Y) → SoFar old old P xs 0
  begun old = record { all = λ y. (λ h. h, λ h. h) }

  -- one element more was done
  pub one_more : (old now new : List Y) (i : ℕ) (x : X) → slice_get xs i ≡ Some x → SoFar old now P xs i → Adds now new (P x) → SoFar old new P xs (i + 1)
  one_more old now new i x is so a = record {
    all = λ y.
        let split : SomeOf (λ z. P z y) (drop i xs) ≡ (P x y ⊎ SomeOf (λ z. P z y) (drop (i + 1) xs)) = ap (λ zs. SomeOf (λ z. P z y) zs) (drop_get xs i x is) in (
          λ h. (so.all y).0 (elim h [
            | inl c ↦ (elim ((a.same y).0 c) [ inl o ↦ inl o | inr p ↦ inr (subst (λ (T : Type 0). T) (sym split) (inl p)) ])
            | inr r ↦ inr (subst (λ (T : Type 0). T) (sym split) (inr r))
          ]),
          λ h. elim ((so.all y).1 h) [
            | inl o ↦ inl ((a.same y).1 (inl o))
            | inr r ↦ (elim (subst (λ (T : Type 0). T) split r) [ inl p ↦ inl ((a.same y).1 (inr p)) | inr q ↦ inr q ])
          ],
        );
  }

  -- all were done
  pub ended : (old now : List Y) (i : ℕ) → length xs ≤ i → SoFar old now P xs i → Adds old now (λ y. SomeOf (λ x. P x y) xs)
  ended old now i l so = record {
    same = λ y.
        let none : SomeOf (λ z. P z y) (drop i xs) ≡ ⊥ = ap (λ zs. SomeOf (λ z. P z y) zs) (drop_all xs i l) in (
          λ c. (so.all y).0 (inl c),
          λ d. elim ((so.all y).1 d) [ inl c ↦ c | inr r ↦ absurd (subst (λ (T : Type 0). T) none r) ],
        );
  }

-- some element that passes is one that is there

there_first : {X : Type 0} (x : X) (xs : List X) → Contains (x ∷ xs) x
there_first x xs = (zero, omega arith, refl)

there_next : {X : Type 0} (y : X) (xs : List X) (x : X) → Contains xs x → Contains (y ∷ xs) x
there_next y xs x h = let l = h.1 in (suc h.0, omega (arith, l), h.2)

pub some_contained : {X : Type 0} (P : X → Type 0) (xs : List X) → SomeOf P xs → (x : X) × (Contains xs x × P x)
some_contained P [] h = absurd h
some_contained P (x ∷ xs) (inl p) = (x, (there_first x xs, p))
some_contained P (x ∷ xs) (inr h) = let r = some_contained P xs h in (r.0, (there_next x xs r.0 r.1.0, r.1.1))

pub at_some : {X : Type 0} (P : X → Type 0) (xs : List X) (i : ℕ) (x : X) → slice_get xs i ≡ Some x → P x → SomeOf P xs
at_some P [] i x e p = let n : Option _ = None in let z : n ≡ Some x = e in absurd cc
at_some P (y ∷ ys) zero x e p = let z : Some y ≡ Some x = e in let q : y ≡ x = cc in inl (subst P (sym q) p)
at_some P (y ∷ ys) (suc i) x e p = inr (at_some P ys i x e p)

pub contained_some : {X : Type 0} (P : X → Type 0) (xs : List X) (x : X) → Contains xs x → P x → SomeOf P xs
contained_some P xs x h p = at_some P xs h.0 x (slice_get-get_or xs h.0 x h.1 ∙ ap Some h.2) p

-- what is added for each element of a list that has exactly these
pub adds_for : {X Y : Type 0} (old new : List Y) (T : X → Y → Type 0) (U : X → Type 0) (xs : List X) → ((x : X) → Contains xs x ↔ U x)
    → Adds old new (λ y. SomeOf (λ x. T x y) xs) → Adds old new (λ y. (x : X) × (U x × T x y))
adds_for old new T U xs h a = adds_same old new (λ y. SomeOf (λ x. T x y) xs) (λ y. (x : _) × (U x × T x y)) a (λ y. (
  λ s. let c = some_contained (λ x. T x y) xs s in (c.0, ((h c.0).0 c.1.0, c.1.1)),
  λ u. contained_some (λ x. T x y) xs u.0 ((h u.0).1 u.1.0) u.1.1,
))
