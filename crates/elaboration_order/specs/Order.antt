-- The order in which items come.
use Rattle.std.specs.Prelude.{ℕ, zero, suc, Bool, true, false, not, ◌&&◌, ◌||◌, if◌then◌else◌, List, [], ◌∷◌, length, get_or, slice_get, set, replicate, Option, Some, None}
use Rattle.std.specs.List.{list_all}
use Rattle.elaboration_order.specs.declared.rules.Rule.{Rule}

-- whether these items have come, of which the flags tell
abbrev pub are_done : List Bool → List ℕ → Bool
are_done done items = list_all (λ i. get_or done i false) items

abbrev pub may_come_by : List Bool → Bool → ℕ → Option Rule → Bool
may_come_by done preferred i None = false
may_come_by done preferred i (Some r) = not (get_or done i false) && (are_done done r.follows && (not preferred || are_done done r.prefers))

-- whether an item may come next: it has not come, and what it follows has; and, if that is asked, had better: what it prefers has, too
abbrev pub may_come : List Rule → List Bool → Bool → ℕ → Bool
may_come rules done preferred i = may_come_by done preferred i (slice_get rules i)

-- the first number below this one that passes
abbrev pub first_below : (ℕ → Bool) → ℕ → Option ℕ
first_below p zero = None
first_below p (suc n) = elim (first_below p n) [ None ↦ if p n then Some n else None | Some i ↦ Some i ]

-- the first of those that had better come, and where there is none the first of those that may
abbrev pub next : List Rule → List Bool → Option ℕ
next rules done = elim (first_below (may_come rules done true) (length rules)) [ None ↦ first_below (may_come rules done false) (length rules) | Some i ↦ Some i ]

-- nothing where nothing may come
abbrev pub chosen : (ℕ → List ℕ) → Option ℕ → List ℕ
chosen rest None = []
chosen rest (Some i) = rest i

abbrev pub order_from : List Rule → ℕ → List Bool → List ℕ
order_from rules zero done = []
order_from rules (suc n) done = chosen (λ i. i ∷ order_from rules n (set done i true)) (next rules done)

-- again and again the next item; it ends where none may come
unfoldable pub order : List Rule → List ℕ
order rules = order_from rules (length rules) (replicate (length rules) false)
