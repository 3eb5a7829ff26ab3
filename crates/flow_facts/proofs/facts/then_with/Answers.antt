use Rattle.std.proofs.Common.{ℕ, arith}
use Rattle.flow_bits.specs.Sets.{Has}
use Rattle.flow_facts.proofs.Outcomes.{reached_dep, reached_kept, then_same}
use Rattle.flow_facts.proofs.facts.then_with.Goals as goal

pub returns-clause-size : goal.returns-clause-size
returns-clause-size c = record {
  reads = omega (arith, c.union_into.ensures.size, c.remove.ensures.size, c.back_where.ensures.size, c.in_ok-reads.ensures.size);
  writes = omega (arith, c.add_where.ensures.size, c.union_into-2.ensures.size, c.in_ok-writes.ensures.size);
  decides = omega (arith, c.choose.ensures.size, c.back_where-2.ensures.size, c.union_into-3.ensures.size, c.in_ok-decides.ensures.size);
  next = rw c.requires.first.decides at c.in_ok-then_side.ensures.size;
  back = rw c.requires.first.decides at c.in_ok-then_side-2.ensures.size;
  leaves = rw c.requires.first.decides at c.in_ok-then_leaves.ensures.size;
}

pub returns-clause-flow : goal.returns-clause-flow
returns-clause-flow c =
    let a = c.args.a.now in
    let old = c.args.rest.now in
    let next = c.requires.first.next in
    then_same c.args.void a old c.add_where.new.into _ _ _ _ _
    (rw c.no_side-none.ensures at c.in_ok-then_side.ensures.then) c.in_ok-then_side-2.ensures.then (λ n. rw (c.pad.ensures.same n) at (c.in_ok-then_leaves.ensures.then n))
    (λ v. grind (arith, c.in_ok-writes.ensures.empty v, c.union_into-2.ensures.set v, c.add_where.ensures.set v))
    (λ v. grind (arith, c.in_ok-reads.ensures.empty v, c.back_where.ensures.set v, c.remove.ensures.set v, c.union_into.ensures.set v, reached_kept _ _ next v))
    (Has c.back_where-2.new.into)
    (λ v. grind (arith, c.in_ok-decides.ensures.empty v, c.union_into-3.ensures.set v, c.back_where-2.ensures.set v, reached_dep _ _ next v))
    c.choose.ensures.set
