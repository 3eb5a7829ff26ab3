use Rattle.std.proofs.Common.{◌≡◌, true, drop}
use Rattle.part_slots.specs.Records.{with_places}
use Rattle.expr_rules.proofs.components.Components.add_rest.Given as goal

abbrev pub invariant-loop-place : goal.invariant-loop-place
invariant-loop-place l =
    (with_places l.self.places.keys l.place (drop l.place l.fields) ≡ with_places l.fn.self.places.keys 0 l.fields) × ((l.self.is_closed ≡ true) × (l.self.is_clear ≡ l.fn.self.is_clear))
