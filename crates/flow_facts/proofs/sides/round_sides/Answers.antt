use Rattle.std.proofs.Common.{◌≡◌, ◌≤◌, length, arith}
use Rattle.std.specs.Prelude.{slice_index_or}
use Rattle.std.proofs.lemmas.List.{get_or_past}
use Rattle.flow_facts.specs.Told.{IsRound, no_side}
use Rattle.flow_facts.proofs.Outcomes.{at_each, round_none}
use Rattle.flow_facts.proofs.sides.round_sides.Goals as goal

pub returns-clause-round : goal.returns-clause-round
returns-clause-round c = at_each (λ i. IsRound c.args.next.now c.args.star.now c.args.decides.now c.args.writes.now) c.args.sides.now c.loop-i.sides (omega arith) (λ i l. round_none c.args.next.now c.args.star.now c.args.decides.now c.args.writes.now) (λ i l. c.loop-i.invariant.done i (omega arith))
