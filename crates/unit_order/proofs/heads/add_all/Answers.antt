use Rattle.std.proofs.Common.{◌<◌, take, length, ap, sym, ◌∙◌}
use Rattle.unit_order.specs.Heads.{added, key_of, with_all}
use Rattle.unit_order.proofs.Steps.{next_take, one_name}
use Rattle.unit_order.proofs.heads.add_all.Goals as goal

pub loop-unit-preserved : goal.loop-unit-preserved
loop-unit-preserved c =
    let xs = c.args.units.now in
    let n = c.loop-unit.unit-index in
    let x = c.unit-item.result in
    let l : n < length xs = c.loop-unit-test.true in
    c.in_ok-add_name.ensures ∙ ap (λ k. added k (key_of x)) c.loop-unit.invariant ∙ sym (one_name c.args.keys.now (take n xs) x)
    ∙ ap (with_all c.args.keys.now) (sym (next_take xs n x l c.unit-item.is))
