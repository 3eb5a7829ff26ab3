use Rattle.std.proofs.Common.{◌∙◌, ◌≤ℤ◌, ◌&&◌, ap, arith}
use Rattle.std.proofs.lemmas.Int.{ints, to_z-of_z}
use Rattle.std.specs.Prelude.{int_le}
use Rattle.choice_covers.specs.Parts.{do_meet}
use Rattle.choice_covers.proofs.Kept.{is_doubled_by}
use Rattle.choice_covers.proofs.covers.Covered.add_values.Goals as goal
use mir.Syntax.{w128}
use mir.Val.{SFits, of_z, to_z}

pub returns-clause-doubled : goal.returns-clause-doubled
returns-clause-doubled c = λ s st.
    let low : SFits w128 c.args.low = c.ranges.low in
    let high : SFits w128 c.args.high = c.ranges.high in
    let a = to_z w128 (of_z w128 c.args.low) in
    let b = to_z w128 (of_z w128 c.args.high) in
    let o : a ≤ℤ b = grind (arith, ints, to_z-of_z, low, high, c.if-high-low.false) in
    c.is_some-is_doubled.ensures
    ∙ (is_doubled_by c.args.self.now s a b o st c.run_meeting.result c.run_meeting.ensures.run c.run_meeting.ensures.meets c.run_meeting.ensures.none
    ∙ (ap (λ x. int_le x b && do_meet s.parts x b) (to_z-of_z w128 c.args.low low)
    ∙ ap (λ x. int_le c.args.low x && do_meet s.parts c.args.low x) (to_z-of_z w128 c.args.high high)))
