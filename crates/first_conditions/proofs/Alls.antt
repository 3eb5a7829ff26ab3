-- A test of a first element and of the others.
use Rattle.std.proofs.Common.{◌≡◌, ◌↔◌, List, [], ◌∷◌, Bool, All, IsTrue, map, subst, sym}
use Rattle.std.proofs.lemmas.List.Elements.{All-nil, All-cons, All-head, All-tail, All-map}

module _ {X : Type 0} (P : X → Type 0) where
  -- the first passes, and a test says whether the others do
  pub all_of : (x : X) (xs ys zs : List X) (b : Bool) → zs ≡ x ∷ xs → ys ≡ xs → P x → IsTrue b ↔ All P ys → IsTrue b ↔ All P zs
  all_of x xs ys zs b whole rest p h = (
    λ t. subst (λ l. All P l) (sym whole) (All-cons P x xs p (subst (λ l. All P l) rest (h.0 t))),
    λ a. h.1 (subst (λ l. All P l) (sym rest) (All-tail P x xs (subst (λ l. All P l) whole a))),
  )

  -- what holds of a mapped list
  pub All-from_map : {Y : Type 0} (f : Y → X) (ys : List Y) → All P (map f ys) → All (λ y. P (f y)) ys
  All-from_map f [] a = All-nil (λ y. P (f y))
  All-from_map f (y ∷ ys) a = All-cons (λ z. P (f z)) y ys (All-head P (f y) (map f ys) a) (All-from_map f ys (All-tail P (f y) (map f ys) a))

  -- a test of what is mapped
  pub all_map : {Y : Type 0} (f : Y → X) (ys zs : List Y) (b : Bool) → zs ≡ ys → IsTrue b ↔ All (λ y. P (f y)) zs → IsTrue b ↔ All P (map f ys)
  all_map f ys zs b same h = (
    λ t. All-map P f ys (subst (λ l. All (λ y. P (f y)) l) same (h.0 t)),
    λ a. h.1 (subst (λ l. All (λ y. P (f y)) l) (sym same) (All-from_map f ys a)),
  )
