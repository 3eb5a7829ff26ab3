-- Parts that stand one after another.
use Rattle.std.proofs.Common.{◌≡◌, Bool, true, false, List, [], ◌∷◌, ◌++◌, refl, ap}
use Rattle.first_path.specs.declared.source.Symbol.{Symbol}
use Rattle.first_path.specs.Spelling.{each_then}

-- one part more
pub each_more : {A : Type 0} (f : A → List Symbol → List Symbol) (xs : List A) (x : A) (r : List Symbol) → each_then f (xs ++ x ∷ []) r ≡ each_then f xs (f x r)
each_more f [] x r = refl
each_more f (y ∷ ys) x r = ap (f y) (each_more f ys x r)

-- a part and what follows are told by its symbols
abbrev pub IsOne : {A : Type 0} → (A → List Symbol → List Symbol) → Type 0
IsOne {A} f = (x y : A) (a b : List Symbol) → f x a ≡ f y b → (x ≡ y) × (a ≡ b)

module _ {A : Type 0} (f : A → List Symbol → List Symbol) (next : List Symbol → Bool) (starts : (x : A) (r : List Symbol) → next (f x r) ≡ true) (one : IsOne f) where
  -- where a part begins and none is spelled, no list of parts is spelled
  pub refused : (xs ys : List A) (cur r : List Symbol) → next cur ≡ true → ((y : A) (s : List Symbol) → cur ≡ f y s → ⊥) → next r ≡ false → each_then f xs cur ≡ each_then f ys r → ⊥
  refused [] [] cur r n d e h = cc
  refused [] (y ∷ ys) cur r n d e h = d y (each_then f ys r) h
  refused (x ∷ xs) [] cur r n d e h = let s : next (f x (each_then f xs cur)) ≡ true = starts x (each_then f xs cur) in cc
  refused (x ∷ xs) (y ∷ ys) cur r n d e h = refused xs ys cur r n d e (one x y (each_then f xs cur) (each_then f ys r) h).1

  -- a list of parts and what follows are told by their symbols
  pub only : (xs ys : List A) (a b : List Symbol) → next a ≡ false → next b ≡ false → each_then f xs a ≡ each_then f ys b → (xs ≡ ys) × (a ≡ b)
  only [] [] a b m n h = (refl, h)
  only [] (y ∷ ys) a b m n h = let s : next (f y (each_then f ys b)) ≡ true = starts y (each_then f ys b) in absurd cc
  only (x ∷ xs) [] a b m n h = let s : next (f x (each_then f xs a)) ≡ true = starts x (each_then f xs a) in absurd cc
  only (x ∷ xs) (y ∷ ys) a b m n h =
      let h1 = one x y (each_then f xs a) (each_then f ys b) h in
      let h2 = only xs ys a b m n h1.1 in
      (let e : x ≡ y = h1.0 in let e2 : xs ≡ ys = h2.0 in cc, h2.1)
