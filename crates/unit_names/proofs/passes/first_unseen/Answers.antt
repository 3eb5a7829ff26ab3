use Rattle.std.proofs.Common.{◌<◌, ◌≡◌, true, false, length, sym, ◌∙◌, ap}
use Rattle.std.specs.Prelude.{is_some}
use Rattle.unit_names.specs.Names.{unseen_in}
use Rattle.unit_names.proofs.Passing.{unit_passes, unit_stops, no_unit}
use Rattle.unit_names.proofs.passes.first_unseen.Goals as goal

pub loop-number-preserved : goal.loop-number-preserved
loop-number-preserved c =
    let units = c.args.units.now in
    let n = c.loop-number.number in
    let h = c.index-units-number.result in
    let l : n < length units = c.loop-number-test.true in
    let e : is_some (unseen_in units n h) ≡ false = ap is_some (sym (c.unseen_in-fault.ensures units c.requires)) ∙ sym c.is_some.ensures ∙ c.if-is_some.false in
    c.loop-number.invariant ∙ unit_passes units n h l c.index-units-number.is e

pub returns-then-is_some : goal.returns-then-is_some
returns-then-is_some c =
    let units = c.args.units.now in
    let n = c.loop-number.number in
    let h = c.index-units-number.result in
    let l : n < length units = c.loop-number-test.true in
    let u : c.unseen_in-fault.result ≡ unseen_in units n h = c.unseen_in-fault.ensures units c.requires in
    let e : is_some (unseen_in units n h) ≡ true = ap is_some (sym u) ∙ sym c.is_some.ensures ∙ c.if-is_some.true in
    u ∙ sym (c.loop-number.invariant ∙ unit_stops units n h l c.index-units-number.is e)

pub returns : goal.returns
returns c = sym (c.loop-number.invariant ∙ no_unit c.args.units.now c.loop-number.number c.loop-number-test.false)
