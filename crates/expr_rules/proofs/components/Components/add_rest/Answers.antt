use Rattle.std.proofs.Common.{◌∙◌, ◌+◌, ◌<◌, length, drop, ap, arith}
use Rattle.part_slots.specs.Records.{Taken, with_places}
use Rattle.expr_rules.proofs.Steps.{places_more}
use Rattle.expr_rules.proofs.components.Components.add_rest.Goals as goal

pub loop-place-preserved : goal.loop-place-preserved
loop-place-preserved c =
    let fields = c.args.fields.now in
    let k = c.loop-place.place in
    let l : k < length fields = grind (arith, c.loop-place-test.true, c.len-place-end.ensures) in
    let e = c.in_ok-add_place.ensures in (
      ap (λ (t : Taken). with_places t.places (k + 1) (drop (k + 1) fields)) e ∙ places_more fields k k c.loop-place.self.places.keys l ∙ c.loop-place.invariant.0,
      (ap (λ (t : Taken). t.is_closed) e ∙ c.loop-place.invariant.1.0, ap (λ (t : Taken). t.is_clear) e ∙ c.loop-place.invariant.1.1),
    )
