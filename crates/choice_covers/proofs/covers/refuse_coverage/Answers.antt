use Rattle.std.proofs.Common.{◌∙◌, ◌<◌, ◌≤◌, length, arith}
use Rattle.choice_covers.proofs.Kept.{found_at_last, found_next, stands_next}
use Rattle.choice_covers.proofs.covers.refuse_coverage.Goals as goal

pub loop-choice-preserved : goal.loop-choice-preserved
loop-choice-preserved c =
    let i = c.loop-choice.invariant in
    let l : c.loop-choice.choice-index < length c.args.choices.now = c.loop-choice-test.true in (
      stands_next c.add.new.self c.args.choices.now c.loop-choice.choice-index _ l (c.in_ok-is_doubled.ensures.stands _ i.0),
      found_next c.loop-choice.found c.refuse_if.new.found c.args.code c.args.choices.now c.loop-choice.choice-index _ _ l
          (c.in_ok-is_doubled.ensures.doubled _ i.0) c.refuse_if.ensures ∙ i.1,
    )

pub returns : goal.returns
returns c =
    let i = c.loop-choice.invariant in
    let l : length c.args.choices.now ≤ c.loop-choice.choice-index = grind (arith, c.loop-choice-test.false) in
    found_at_last c.args.found.now c.loop-choice.found c.refuse_if-2.new.found c.args.code c.args.at c.args.bounds c.args.choices.now c.loop-choice.choice-index _ l
    (c.is_incomplete-is_incomplete.ensures _ i.0) c.refuse_if-2.ensures i.1
