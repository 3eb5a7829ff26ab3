use Rattle.std.proofs.Common.{ℕ, arith}
use Rattle.flow_bits.specs.Sets.{Has}
use Rattle.flow_facts.proofs.Outcomes.{either_same}
use Rattle.flow_facts.proofs.facts.branch_with.Goals as goal

pub returns-clause-flow : goal.returns-clause-flow
returns-clause-flow c =
    let old = c.args.a.now in
    either_same old c.args.b.now c.args.test.now c.union_into-3.new.self _ _ _ _ _
    c.in_ok-either_side.ensures.either c.in_ok-either_side-2.ensures.either (λ n. rw (c.pad.ensures.same n) at (c.in_ok-either_leaves.ensures.either n))
    (λ v. c.union_into-3.ensures.set v)
    (λ v. grind (arith, c.union_into.ensures.set v, c.union_into-2.ensures.set v))
    (Has c.union_into-5.new.self)
    (λ v. grind (arith, c.union_into-4.ensures.set v, c.union_into-5.ensures.set v))
    c.choose.ensures.set
