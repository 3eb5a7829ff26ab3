use Rattle.std.proofs.Common.{◌<◌, take, length, sym, ◌∙◌, ap, subst}
use Rattle.std.specs.Prelude.{Some}
use Rattle.unit_names.specs.Names.{is_doubled}
use Rattle.unit_names.specs.Seen.{IsSeen}
use Rattle.unit_names.proofs.Passing.{next_take, passes, stops, ends}
use Rattle.unit_names.proofs.passes.first_doubled.Goals as goal

pub loop-number-preserved : goal.loop-number-preserved
loop-number-preserved c =
    let units = c.args.units.now in
    let n = c.loop-number.number in
    let h = c.index-units-number.result in
    let v = c.loop-number.invariant in
    let l : n < length units = c.loop-number-test.true in
    record {
      seen = subst (IsSeen c.note.new.self) (sym (next_take units n h l c.index-units-number.is)) (c.in_ok-note.ensures (take n units) v.seen);
      rest = v.rest ∙ passes is_doubled units n h l c.index-units-number.is (sym (c.doubles.ensures (take n units) v.seen) ∙ c.if-doubles.false);
    }

pub returns-then-doubles : goal.returns-then-doubles
returns-then-doubles c =
    let units = c.args.units.now in
    let n = c.loop-number.number in
    let v = c.loop-number.invariant in
    let l : n < length units = c.loop-number-test.true in
    sym (v.rest ∙ stops is_doubled units n c.index-units-number.result l c.index-units-number.is (sym (c.doubles.ensures (take n units) v.seen) ∙ c.if-doubles.true))

pub returns : goal.returns
returns c = sym (c.loop-number.invariant.rest ∙ ends is_doubled c.args.units.now c.loop-number.number c.loop-number-test.false)
