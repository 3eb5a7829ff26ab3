use Rattle.std.proofs.Common.{arith}
use Rattle.flow_facts.proofs.Outcomes.{reached_dep, reached_kept}
use Rattle.flow_facts.proofs.sides.then_side.Goals as goal

pub returns-clause-then : goal.returns-clause-then
returns-clause-then c =
    let n = c.requires in
    record {
      reached = grind (arith, c.any.ensures, c.both-behind.ensures);
      kept = λ v w. grind (arith, c.in_ok-kept.ensures.empty v w, c.add_pairs.ensures.set v w, c.add_behind.ensures.set v w, c.both-behind.ensures, reached_kept _ _ n.own v w, reached_kept _ _ n.next, reached_kept _ _ n.size);
      dep = λ v w. grind (arith, c.in_ok-dep.ensures.empty v w, c.add_pairs-2.ensures.set v w, c.add_behind-2.ensures.set v w, c.add_cross.ensures.set v w, c.both-behind.ensures, c.both.ensures, reached_dep _ _ n.own v w, reached_dep _ _ n.next, reached_dep _ _ n.size);
    }
