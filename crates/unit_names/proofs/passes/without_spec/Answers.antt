use Rattle.std.proofs.Common.{◌<◌, take, length, sym, ◌∙◌}
use Rattle.unit_names.specs.Names.{is_bodiless}
use Rattle.unit_names.proofs.Passing.{passes, stops, ends}
use Rattle.unit_names.proofs.passes.without_spec.Goals as goal

pub loop-number-preserved : goal.loop-number-preserved
loop-number-preserved c =
    let units = c.args.units.now in
    let n = c.loop-number.number in
    let l : n < length units = c.loop-number-test.true in
    c.loop-number.invariant ∙ passes (is_bodiless units) units n c.index-units-number.result l c.index-units-number.is (sym (c.lacks_spec.ensures units c.requires) ∙ c.if-lacks_spec.false)

pub returns-then-lacks_spec : goal.returns-then-lacks_spec
returns-then-lacks_spec c =
    let units = c.args.units.now in
    let n = c.loop-number.number in
    let l : n < length units = c.loop-number-test.true in
    sym (c.loop-number.invariant ∙ stops (is_bodiless units) units n c.index-units-number.result l c.index-units-number.is (sym (c.lacks_spec.ensures units c.requires) ∙ c.if-lacks_spec.true))

pub returns : goal.returns
returns c = sym (c.loop-number.invariant ∙ ends (is_bodiless c.args.units.now) c.args.units.now c.loop-number.number c.loop-number-test.false)
