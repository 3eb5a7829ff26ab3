use Rattle.std.proofs.Common.{◌<◌, All, List, refl, subst, sym}
use Rattle.std.proofs.lemmas.List.Elements.{All-push}
use Rattle.spark_base.specs.declared.numbers.BodyNo.{BodyNo}
use Rattle.call_lists.proofs.Names.{pushed_names}
use Rattle.call_lists.proofs.order.numbered.Goals as goal

pub loop-b-preserved : goal.loop-b-preserved
loop-b-preserved c = record {
  below = subst (λ (xs : List BodyNo). All (λ (b : BodyNo). b.0 < c.args.bodies) xs) (sym c.in_ok-push.ensures.items)
      (All-push (λ (b : BodyNo). b.0 < c.args.bodies) _ (record { 0 = c.loop-b.b }) c.loop-b.invariant.below c.loop-b-test.true);
  all = pushed_names _ _ _ _ c.in_ok-push.ensures.items refl c.loop-b.invariant.all;
}
