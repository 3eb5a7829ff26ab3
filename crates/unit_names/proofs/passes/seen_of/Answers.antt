use Rattle.std.proofs.Common.{◌<◌, take, length, sym, subst}
use Rattle.std.proofs.lemmas.List.{take_all}
use Rattle.unit_names.specs.Seen.{IsSeen}
use Rattle.unit_names.proofs.Passing.{next_take}
use Rattle.unit_names.proofs.passes.seen_of.Goals as goal

pub loop-number-preserved : goal.loop-number-preserved
loop-number-preserved c =
    let units = c.args.units.now in
    let n = c.loop-number.number in
    let l : n < length units = c.loop-number-test.true in
    subst (IsSeen c.note.new.self) (sym (next_take units n c.index-units-number.result l c.index-units-number.is)) (c.in_ok-note.ensures (take n units) c.loop-number.invariant)

pub returns : goal.returns
returns c = subst (IsSeen c.loop-number.seen) (take_all c.loop-number.number c.args.units.now c.loop-number-test.false) c.loop-number.invariant
