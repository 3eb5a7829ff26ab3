use Rattle.std.proofs.Common.{◌≡◌, ◌++◌, ◌∷◌, [], ◌+◌, ◌<◌, ◌∙◌, length, map, drop, None, Some, slice_get, ap, arith}
use Rattle.part_slots.specs.Records.{type_of_field}
use Rattle.part_slots.proofs.Steps.{none_within, types_more}
use Rattle.part_slots.proofs.values.types_from.Goals as goal
use Rattle.part_slots.proofs.values.types_from.Goals.{in-Some+in_ok-push, in_default}

pub loop-place-preserved : goal.loop-place-preserved
loop-place-preserved c =
    let fields = c.args.fields.now in
    let k = c.loop-place.place in
    elim c.match-at.branch [
      | in-Some+in_ok-push w ↦
          let e : slice_get fields k ≡ Some (w.in-Some.field-0-0, w.in-Some.field) = grind (arith, c.at.ensures, w.in-Some.is, w.in-Some.field-is) in
          let p : c.match-at.types ≡ c.loop-place.types ++ w.in-Some.field.of ∷ [] = grind (arith, w.types-is, w.in_ok-push.ensures.ok) in
          ap (λ ts. ts ++ map type_of_field (drop (k + 1) fields)) p
          ∙ (types_more fields k (w.in-Some.field-0-0, w.in-Some.field) c.loop-place.types e ∙ c.loop-place.invariant)
      | in_default w ↦
          let e : slice_get fields k ≡ None = grind (arith, c.at.ensures, w.in_default.is) in
          let l : k < length fields = grind (arith, c.loop-place-test.true, c.len-place-end.ensures) in
          elim (none_within fields k l e) [ ]
    ]
