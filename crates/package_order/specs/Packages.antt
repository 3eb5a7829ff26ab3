-- How packages are elaborated.
use Rattle.std.specs.Prelude.{◌≡◌, ℕ, ◌+◌, ◌*◌, ◌<◌, ◌/◌, ◌%◌, nat_eq, Bool, true, false, List, [], ◌∷◌, ◌++◌, map, filter, slice_get, Option, Some, None, is_some}
use Rattle.elaboration_order.specs.declared.rules.Rule.{Rule}
use Rattle.elaboration_order.specs.Order.{order}
use Rattle.graph_cycles.specs.Cycles.{IsOnCycle}
use Rattle.package_order.specs.declared.packages.Item.{Item}
use Rattle.package_order.specs.declared.packages.Package.{Package}
use Rattle.package_order.specs.declared.elaboration.Elaboration.{Elaboration}
use Rattle.package_order.specs.declared.elaboration.Elaboration.TheVariants as answers

-- the place of a package's spec or body among all items, the spec of each package before its body
abbrev pub place_of : Bool → ℕ → ℕ
place_of false number = 2 * number
place_of true number = 2 * number + 1

abbrev pub item_at : ℕ → Item
item_at place = record { number = place / 2; is_body = nat_eq (place % 2) 1 }

abbrev pub has_part : Bool → Option Package → Bool
has_part is_body None = false
has_part false (Some p) = true
has_part true (Some p) = is_some p.body_withs

-- whether there is a package of this number, with a body if this is asked
abbrev pub has_item : List Package → Bool → ℕ → Bool
has_item all is_body number = has_part is_body (slice_get all number)

-- the places of the specs, or of the bodies, of those that are named
abbrev pub items_of : List Package → Bool → List ℕ → List ℕ
items_of all is_body names = map (place_of is_body) (filter (has_item all is_body) names)

-- a spec follows the specs that it withs, and prefers their bodies
abbrev pub spec_rule : List Package → Package → Rule
spec_rule all p = record { follows = items_of all false p.withs; prefers = items_of all true p.withs }

abbrev pub body_rule_by : List Package → ℕ → List ℕ → Option (List ℕ) → Rule
body_rule_by all n withs None = record { follows = place_of true n ∷ []; prefers = [] }
body_rule_by all n withs (Some more) = record {
  follows = place_of false n ∷ (items_of all false withs ++ items_of all false more);
  prefers = items_of all true withs ++ items_of all true more;
}

-- A body follows its spec, and the specs that its spec and it with, and prefers their bodies. One that is not there follows itself, so
-- that it never comes.
abbrev pub body_rule : List Package → ℕ → Package → Rule
body_rule all n p = body_rule_by all n p.withs p.body_withs

abbrev pub rules_from : List Package → ℕ → List Package → List Rule
rules_from all n [] = []
rules_from all n (p ∷ ps) = spec_rule all p ∷ body_rule all n p ∷ rules_from all (n + 1) ps

-- what each item follows and prefers, in the order of their places
abbrev pub rules : List Package → List Rule
rules all = rules_from all 0 all

-- for each package those that its spec withs
abbrev pub with_graph : List Package → List (List ℕ)
with_graph = map (λ (p : Package). p.withs)

-- the first package to whose spec with clauses of specs lead back; or, where there is none, the items in order
abbrev pub IsElaboration : List Package → Elaboration → Type 0
IsElaboration all (answers.Circle p) =
    IsOnCycle (with_graph all) p × ((q : ℕ) → q < p → IsOnCycle (with_graph all) q → ⊥)
IsElaboration all (answers.Order items) =
    ((q : ℕ) → IsOnCycle (with_graph all) q → ⊥) × (items ≡ map item_at (order (rules all)))
