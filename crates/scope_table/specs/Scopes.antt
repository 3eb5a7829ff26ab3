-- What names denote among the declarations of open regions.
use Rattle.std.specs.Prelude.{ℕ, nat_eq, if◌then◌else◌, List, [], ◌∷◌, ◌++◌, Option, Some, None}
use Rattle.scope_table.specs.declared.table.Open.{Open}

module _ {T : Type 0} where
  -- what the last declaration of this name shows, and before all of them this
  abbrev pub latest_from : ℕ → Option T → List (Open T) → Option T
  latest_from k found [] = found
  latest_from k found (o ∷ os) = latest_from k (if nat_eq o.key k then Some o.shown else found) os

  -- an inner declaration hides the outer ones
  abbrev pub latest : ℕ → List (Open T) → Option T
  latest k os = latest_from k None os

  -- what each hides, behind those that stand before
  abbrev pub hides_from : List (Open T) → List (Open T) → List (Option T)
  hides_from before [] = []
  hides_from before (o ∷ os) = latest o.key before ∷ hides_from (before ++ o ∷ []) os

  abbrev pub hides : List (Open T) → List (Option T)
  hides os = hides_from [] os
