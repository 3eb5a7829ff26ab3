use Rattle.std.proofs.Common.{◌≡◌, ◌+◌, ◌≤◌, length, ◌∙◌, arith}
use Rattle.std.proofs.lemmas.List.{length_push}
use Rattle.flow_facts.specs.Told.{no_side}
use Rattle.flow_facts.proofs.Outcomes.{pushed_none, pushed_sized}
use Rattle.flow_facts.proofs.sides.pad.Goals as goal

pub loop-i-preserved : goal.loop-i-preserved
loop-i-preserved c =
    let size = length_push c.loop-i.sides.items no_side in
    record {
      size = λ n h. rw (c.in_ok-push.ensures.items, c.no_side.ensures) (pushed_sized n c.loop-i.sides.items (c.loop-i.invariant.size n h));
      count = rw (c.in_ok-push.ensures.items, c.no_side.ensures) (omega arith);
      same = λ k. rw (c.in_ok-push.ensures.items, c.no_side.ensures) (pushed_none c.loop-i.sides.items k ∙ c.loop-i.invariant.same k);
    }
