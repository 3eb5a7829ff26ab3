use Rattle.std.proofs.Common.{◌<ℤ◌, ◌≤ℤ◌, ◌∙◌, sym, arith, rules}
use Rattle.std.proofs.lemmas.Grind.{common_steps}
use Rattle.std.proofs.lemmas.Int.{ints, to_z-of_z}
use Rattle.std.proofs.lemmas.Option.{none-some}
use Rattle.choice_covers.proofs.Apart.{cmp_from_le, ge_from_cmp, last_free, le_from_cmp, none_meet}
use Rattle.choice_covers.proofs.runs.run_meeting.Goals as goal
use mir.Syntax.{w128}
use mir.Val.{SFits, of_z, to_z}

pub returns-in-Some-clause-run : goal.returns-in-Some-clause-run
returns-in-Some-clause-run c =
    let h = (c.range.ensures.in_range tt).3 _ _ c.in-Some.ensures.steps in
    let f : SFits w128 c.in-Some.first.now = search rules in
    let g : SFits w128 c.in-Some.last.now = search rules in
    rw (to_z-of_z w128 c.in-Some.first.now f, to_z-of_z w128 c.in-Some.last.now g) (h.1)

pub returns-in-Some-clause-meets : goal.returns-in-Some-clause-meets
returns-in-Some-clause-meets c =
    let h = (c.range.ensures.in_range tt).3 _ _ c.in-Some.ensures.steps in
    let f : SFits w128 c.in-Some.first.now = search rules in
    let g : SFits w128 c.in-Some.last.now = search rules in
    let high : SFits w128 c.args.high = c.ranges.high in
    let k = le_from_cmp c.in-Some.first.now (to_z w128 (of_z w128 c.args.high)) h.0.1 in
    let l : c.in-Some.first.now ≤ℤ c.args.high = omega (arith, ints, k) in
    rw (to_z-of_z w128 c.in-Some.first.now f, to_z-of_z w128 c.in-Some.last.now g) (l, grind (arith, ints, c.if-last-low.true))

pub returns-in_default-clause-none : goal.returns-in_default-clause-none
returns-in_default-clause-none c =
    let h = (c.range.ensures.in_range tt).3 _ _ c.in-Some.ensures.steps in
    let k = (c.range.ensures.in_range tt).4 _ _ c.in-Some.ensures.steps in
    let l : c.in-Some.last.now <ℤ c.args.low = grind (arith, ints, c.if-last-low.false) in
    let high : SFits w128 c.args.high = c.ranges.high in
    none_meet c.args.runs.now c.range.ensures.ordered c.args.low c.args.high
    (last_free c.args.runs.now c.requires.apart c.in-Some.first.now c.in-Some.last.now c.args.low c.args.high h.1 l
    (λ q v r b. ge_from_cmp c.in-Some.first.now q (k q (tt, cmp_from_le q (to_z w128 (of_z w128 c.args.high)) (omega (arith, ints, b))) (grind (arith, r)))))

pub returns-in_default-2-clause-none : goal.returns-in_default-2-clause-none
returns-in_default-2-clause-none c =
    let high : SFits w128 c.args.high = c.ranges.high in
    let none = (c.range.ensures.in_range tt).5 (grind (arith, common_steps, c.next_back.ensures.steps, c.in_default.is)) in
    none_meet c.args.runs.now c.range.ensures.ordered c.args.low c.args.high
    (λ a b r k. elim (none-some b (sym (none a (tt, cmp_from_le a (to_z w128 (of_z w128 c.args.high)) (omega (arith, ints, k)))) ∙ r)) [ ])
