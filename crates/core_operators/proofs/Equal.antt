-- Lists of cells that are compared.
use Rattle.std.proofs.Common.{◌≡◌, ◌≢◌, suc, Bool, true, false, List, [], ◌∷◌, length, refl, ap, ℤ}
use Rattle.std.specs.Prelude.{◌&&◌}
use Rattle.std.specs.Ordering.{int_eq}
use Rattle.core_operators.specs.Operators.{are_equal}

-- lists of different lengths are not equal
pub uneven : (a b : List ℤ) → length a ≢ length b → false ≡ are_equal a b
uneven [] [] h = absurd (h refl)
uneven [] (m ∷ ms) h = refl
uneven (n ∷ ns) [] h = refl
uneven (n ∷ ns) (m ∷ ms) h = either (int_eq n m) (uneven ns ms (λ e. h (ap suc e)))
  where
    either : (b : Bool) → false ≡ are_equal ns ms → false ≡ (b && are_equal ns ms)
    either true g = g
    either false g = refl
