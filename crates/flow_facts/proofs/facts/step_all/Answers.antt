use Rattle.flow_bits.specs.Sets.{Has}
use Rattle.flow_facts.specs.Told.{IsBehind, side_of, step_flow}
use Rattle.flow_facts.proofs.Outcomes.{by_outcome}
use Rattle.flow_facts.proofs.facts.step_all.Goals as goal

pub returns-clause-behind : goal.returns-clause-behind
returns-clause-behind c =
    let old = c.args.rest.now in
    by_outcome (λ o. IsBehind (step_flow c.args.change c.args.void c.args.leaf (Has c.args.from.now)) (side_of old.next old.back old.leaves.items o) (side_of c.step_side.new.side c.step_side-2.new.side c.step_leaves.new.leaves.items o))
    c.step_side.ensures.behind c.step_side-2.ensures.behind (λ n. c.step_leaves.ensures.behind n)
