use Rattle.std.proofs.Common.{◌≡◌, ◌<◌, ◌≤◌, length, arith, sym, ◌∙◌}
use Rattle.std.proofs.lemmas.List.{get_or_default}
use Rattle.std.specs.Prelude.{slice_index_or}
use Rattle.std.proofs.lemmas.List.{get_or_past}
use Rattle.flow_facts.specs.Told.{IsEither, no_side}
use Rattle.flow_facts.proofs.Outcomes.{more_done, more_others, more_sized, at_each, either_none}
use Rattle.flow_facts.proofs.sides.either_sides.Goals as goal

pub returns-clause-either : goal.returns-clause-either
returns-clause-either c = at_each (λ i. IsEither (slice_index_or c.args.others.now i no_side) c.args.test.now c.args.writes.now) c.args.sides.now c.loop-i.sides (omega arith) (λ i l. rw (get_or_past c.args.others.now i no_side (omega arith)) (either_none c.args.test.now c.args.writes.now)) (λ i l. c.loop-i.invariant.done i (omega arith))

pub loop-i-preserved : goal.loop-i-preserved
loop-i-preserved c =
    let within : c.loop-i.i < length c.loop-i.sides = omega arith in
    let here : slice_index_or c.loop-i.sides c.loop-i.i c.index-sides-i.result ≡ slice_index_or c.args.sides.now c.loop-i.i no_side = get_or_default c.loop-i.sides c.loop-i.i c.index-sides-i.result no_side within ∙ c.loop-i.invariant.others c.loop-i.i (omega arith) in
    let now = rw here at c.in_ok-either_at.ensures.either in
    record {
      size = more_sized (length c.args.test.now) c.loop-i.sides c.loop-i.i c.either_at.new.side c.loop-i.invariant.size c.in_ok-either_at.ensures.size;
      done = more_done (λ i. IsEither (slice_index_or c.args.others.now i no_side) c.args.test.now c.args.writes.now) c.args.sides.now c.loop-i.sides c.loop-i.i c.either_at.new.side within c.loop-i.invariant.done now;
      others = more_others c.args.sides.now c.loop-i.sides c.loop-i.i c.either_at.new.side c.loop-i.invariant.others;
    }
