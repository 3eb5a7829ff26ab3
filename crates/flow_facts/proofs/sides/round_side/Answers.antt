use Rattle.std.proofs.Common.{refl, arith}
use Rattle.flow_facts.proofs.Outcomes.{reached_kept}
use Rattle.flow_facts.proofs.sides.round_side.Goals as goal

pub returns-clause-round : goal.returns-clause-round
returns-clause-round c = record {
  reached = refl;
  kept = λ v w. grind (arith, c.in_ok-kept.ensures.empty v w, c.union_into.ensures.set v w, c.add_behind.ensures.set v w, reached_kept _ _ c.requires.next v);
  dep = λ v w. grind (arith, c.in_ok-dep.ensures.empty v w, c.compose_into.ensures.set v w, c.add_cross.ensures.set, c.if-not-side.false);
}
