use Rattle.std.proofs.Common.{◌<◌, ◌≡◌, ◌&&◌, ◌||◌, take, length, get_or, sym, ◌∙◌, ap}
use Rattle.std.specs.List.{list_any}
use Rattle.std.proofs.lemmas.List.Folds.{list_any_more}
use Rattle.unit_names.specs.Names.{is_main, is_second}
use Rattle.unit_names.proofs.Passing.{passes, stops, ends}
use Rattle.unit_names.proofs.passes.second_main.Goals as goal

pub loop-number-preserved : goal.loop-number-preserved
loop-number-preserved c =
    let units = c.args.units.now in
    let n = c.loop-number.number in
    let h = c.index-units-number.result in
    let v = c.loop-number.invariant in
    let l : n < length units = c.loop-number-test.true in
    record {
      seen = c.has_main_with-has_main.ensures ∙ ap (λ b. b || is_main h) v.seen ∙ ap (λ g. list_any is_main (take n units) || is_main g) c.index-units-number.is ∙ sym (list_any_more is_main units n h l);
      rest = v.rest ∙ passes is_second units n h l c.index-units-number.is (ap (λ b. is_main h && b) (sym v.seen) ∙ sym c.is_second.ensures ∙ c.if-is_second.false);
    }

pub returns-then-is_second : goal.returns-then-is_second
returns-then-is_second c =
    let units = c.args.units.now in
    let n = c.loop-number.number in
    let h = c.index-units-number.result in
    let v = c.loop-number.invariant in
    let l : n < length units = c.loop-number-test.true in
    sym (v.rest ∙ stops is_second units n h l c.index-units-number.is (ap (λ b. is_main h && b) (sym v.seen) ∙ sym c.is_second.ensures ∙ c.if-is_second.true))

pub returns : goal.returns
returns c = sym (c.loop-number.invariant.rest ∙ ends is_second c.args.units.now c.loop-number.number c.loop-number-test.false)
