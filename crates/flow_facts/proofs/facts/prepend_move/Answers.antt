use Rattle.std.proofs.Common.{arith}
use Rattle.flow_facts.specs.Flow.{moving}
use Rattle.flow_bits.specs.Sets.{Has}
use Rattle.flow_facts.proofs.Within.{has_within}
use Rattle.flow_facts.proofs.Outcomes.{moving_goes, prepend_same}
use Rattle.flow_facts.proofs.facts.prepend_move.Goals as goal

pub returns-clause-flow : goal.returns-clause-flow
returns-clause-flow c =
    let old = c.args.rest.now in
    prepend_same c.args.void (moving c.args.void c.args.to (Has c.args.from.now)) (moving_goes c.args.void c.args.to (Has c.args.from.now)) old _ _ _ _ _ _ c.step_all.ensures.behind
    (λ v. grind (arith, c.step_all.ensures.reads, c.requires.size.reads, has_within old.reads v, c.remove.ensures.set v, c.remove-2.ensures.set v, c.union_into.ensures.set v))
    (λ v. grind (arith, c.step_all.ensures.writes, c.add.ensures.set v))
    (Has c.step_all.new.rest.decides) c.step_all.ensures.decides c.move_decides.ensures.set
