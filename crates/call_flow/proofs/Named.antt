-- Names of places.
use Rattle.std.proofs.Common.{◌≡◌, ℕ, ◌<◌, Bool, List, length, subst, arith}
use Rattle.std.specs.Prelude.{All}
use Rattle.std.proofs.lemmas.List.Elements.{All-get_or}
use Rattle.flow_bits.specs.Sets.{Has}
use Rattle.flow_facts.proofs.Within.{has_within}
use Rattle.call_flow.specs.Calls.{Standing}
use Rattle.call_flow.specs.Told.{name_in}

-- a name of a place of a set is below what each name is below
pub named_below : (big : ℕ) (names : List ℕ) (keeps : List Bool) → All (λ x. x < big) names → length keeps ≡ length names → (v : ℕ) → Standing (name_in names) (Has keeps) v → v < big
named_below big names keeps h e v (f, (is, k)) =
    let l : f < length names = omega (arith, has_within keeps f k, e) in
    let m : name_in names f < big = All-get_or (λ x. x < big) names f 0 l h in
    subst (λ u. u < big) is m
