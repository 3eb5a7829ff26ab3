use Rattle.std.proofs.Common.{◌≡◌, ◌∙◌, ◌++◌, ◌+◌, ◌<◌, length, drop, slice_get, None, Some, ap, arith}
use Rattle.part_slots.proofs.Steps.{none_within}
use Rattle.part_slots.specs.Records.{type_at, types_at}
use Rattle.expr_rules.proofs.Steps.{types_more}
use Rattle.expr_rules.proofs.components.Components.types_behind.Goals as goal
use Rattle.expr_rules.proofs.components.Components.types_behind.Goals.{in-Some+in_ok-add_type, in_default}

pub loop-k-preserved : goal.loop-k-preserved
loop-k-preserved c =
    let fields = c.args.fields.now in
    let keys = c.args.self.now.places.keys in
    let k = c.loop-k.k in
    elim c.match-place_at.branch [
      | in-Some+in_ok-add_type w ↦
          let e : slice_get keys k ≡ Some w.in-Some.place = grind (arith, c.place_at.ensures, w.in-Some.is) in
          let p : c.match-place_at.types ≡ c.loop-k.types ++ type_at fields w.in-Some.place = grind (arith, w.types-is, w.in_ok-add_type.ensures) in
          ap (λ ts. ts ++ types_at fields (drop (k + 1) keys)) p ∙ (types_more fields keys k w.in-Some.place c.loop-k.types e ∙ c.loop-k.invariant)
      | in_default w ↦
          let e : slice_get keys k ≡ None = grind (arith, c.place_at.ensures, w.in_default.is) in
          let l : k < length keys = grind (arith, c.loop-k-test.true, c.len-k-end.ensures.len) in
          elim (none_within keys k l e) [ ]
    ]
