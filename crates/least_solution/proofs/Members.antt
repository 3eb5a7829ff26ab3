-- Elements of lists.
use Rattle.std.proofs.Common.{◌⊎◌, inl, inr, List, [], ◌∷◌, ◌++◌, ap}
use Rattle.std.specs.Prelude.{map}
use Rattle.least_solution.specs.Least.{Among}

pub among_left : {A : Type 0} (x : A) (xs ys : List A) → Among x xs → Among x (xs ++ ys)
among_left x [] ys a = absurd a
among_left x (y ∷ xs) ys (inl e) = inl e
among_left x (y ∷ xs) ys (inr a) = inr (among_left x xs ys a)

pub among_right : {A : Type 0} (x : A) (xs ys : List A) → Among x ys → Among x (xs ++ ys)
among_right x [] ys a = a
among_right x (y ∷ xs) ys a = inr (among_right x xs ys a)

pub among_split : {A : Type 0} (x : A) (xs ys : List A) → Among x (xs ++ ys) → Among x xs ⊎ Among x ys
among_split x [] ys a = inr a
among_split x (y ∷ xs) ys (inl e) = inl (inl e)
among_split x (y ∷ xs) ys (inr a) = elim (among_split x xs ys a) [ inl l ↦ inl (inr l) | inr r ↦ inr r ]

pub among_map : {A B : Type 0} (f : A → B) (x : A) (xs : List A) → Among x xs → Among (f x) (map f xs)
among_map f x [] a = absurd a
among_map f x (y ∷ xs) (inl e) = inl (ap f e)
among_map f x (y ∷ xs) (inr a) = inr (among_map f x xs a)
