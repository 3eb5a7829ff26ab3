use Rattle.std.proofs.Common.{◌≡◌, ◌+◌, ◌-◌, ◌<◌, length, drop, cond, Some, ap, sym, ◌∙◌, arith}
use Rattle.unit_order.specs.Packages.{has_name, part_by, place_from}
use Rattle.unit_order.proofs.Steps.{one_place}
use Rattle.unit_order.proofs.listed.table_of.Goals as goal

pub loop-place-preserved : goal.loop-place-preserved
loop-place-preserved c = λ name.
    let heads = c.args.heads.now in
    let is = has_name (part_by c.args.is_body) name in
    let h = c.index-heads-place.result in
    let n = c.loop-place.place - 1 in
    let within : n < length heads = omega arith in
    let next : n + 1 ≡ c.loop-place.place = omega arith in
    let stepped = one_place is heads n h within c.index-heads-place.is in
    c.in_ok-note.ensures name ∙ ap (cond (is h) (Some n)) (c.loop-place.invariant name ∙ ap (λ k. place_from is k (drop k heads)) (sym next)) ∙ sym stepped
