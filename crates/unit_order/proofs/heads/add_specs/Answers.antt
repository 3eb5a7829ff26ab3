use Rattle.std.proofs.Common.{◌<◌, take, length, ap, sym, ◌∙◌}
use Rattle.unit_order.specs.Heads.{spec_added, with_specs}
use Rattle.unit_order.proofs.Steps.{next_take, one_spec}
use Rattle.unit_order.proofs.heads.add_specs.Goals as goal

pub loop-unit-preserved : goal.loop-unit-preserved
loop-unit-preserved c =
    let xs = c.args.units.now in
    let n = c.loop-unit.unit-index in
    let x = c.unit-item.result in
    let l : n < length xs = c.loop-unit-test.true in
    c.in_ok-add_spec.ensures ∙ ap (λ k. spec_added k x) c.loop-unit.invariant ∙ sym (one_spec c.args.keys.now (take n xs) x)
    ∙ ap (with_specs c.args.keys.now) (sym (next_take xs n x l c.unit-item.is))
