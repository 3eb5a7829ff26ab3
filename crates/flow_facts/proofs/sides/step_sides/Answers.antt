use Rattle.std.proofs.Common.{◌≡◌, ◌≤◌, length, arith}
use Rattle.flow_bits.specs.Sets.{Has}
use Rattle.flow_facts.specs.Told.{IsBehind, step_flow}
use Rattle.flow_facts.proofs.Outcomes.{at_each, behind_none}
use Rattle.flow_facts.proofs.sides.step_sides.Goals as goal

pub returns-clause-behind : goal.returns-clause-behind
returns-clause-behind c =
    let first = step_flow c.args.change c.args.void c.args.leaf (Has c.args.from.now) in
    at_each (λ i. IsBehind first) c.args.sides.now c.loop-i.sides (omega arith) (λ i l. behind_none first) (λ i l. c.loop-i.invariant.done i (omega arith))
