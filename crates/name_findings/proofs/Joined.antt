-- Findings one behind the other.
use Rattle.std.proofs.Common.{◌≡◌, List, [], ◌∷◌, ◌++◌, refl}
use Rattle.name_findings.specs.Findings.{Finding, Told, add, add_all}

pub add_append : (t : Told) (xs : List Finding) (ys : List Finding) → add_all t (xs ++ ys) ≡ add_all (add_all t xs) ys
add_append t [] ys = refl
add_append t (x ∷ xs) ys = add_append (add t x) xs ys
