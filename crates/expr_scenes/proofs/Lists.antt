-- Lists of trees.
use Rattle.std.proofs.Common.{◌≡◌, suc, List, [], ◌∷◌, length, map, refl, ap}
use Rattle.ada_forms.specs.Forms.{Expr, listed}
use Rattle.expr_outlines.specs.Outlines.{count_of, trees}

pub trees_listed : (ts : List Expr) → trees (listed ts) ≡ ts
trees_listed [] = refl
trees_listed (t ∷ ts) = ap (λ xs. t ∷ xs) (trees_listed ts)

pub count_listed : {A : Type 0} (f : A → Expr) (xs : List A) → count_of (listed (map f xs)) ≡ length xs
count_listed f [] = refl
count_listed f (x ∷ xs) = ap suc (count_listed f xs)
