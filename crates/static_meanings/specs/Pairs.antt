-- Pairs of a number and what stands for it.
use Rattle.std.specs.Prelude.{ℕ, nat_eq, if◌then◌else◌, List, [], ◌∷◌, Option, Some, None}

abbrev pub told_from : {V : Type 0} → Option V → List (ℕ × V) → ℕ → Option V
told_from found [] n = found
told_from found (p ∷ ps) n = told_from (if nat_eq p.0 n then Some p.1 else found) ps n

-- what the last pair of a number has
abbrev pub told : {V : Type 0} → List (ℕ × V) → ℕ → Option V
told ps n = told_from None ps n
