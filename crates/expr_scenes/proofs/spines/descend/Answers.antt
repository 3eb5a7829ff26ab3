use Rattle.expr_scenes.proofs.Descents.{all_low, leads_on}
use Rattle.expr_scenes.proofs.spines.descend.Goals as goal
use Rattle.std.proofs.Common.{arith}

pub loop-inner-preserved : goal.loop-inner-preserved
loop-inner-preserved c = record {
  leads = leads_on c.args.scene.now.units.now.exprs (record { e = c.args.e; reading = c.args.reading }) c.loop-inner.at
      (record { e = c.in-Some.inner; reading = c.inner_reading-reading.result }) c.loop-inner.above.items c.push.new.self.items
      c.loop-inner.invariant.leads c.in-Some.ensures.inner c.inner_reading-reading.ensures c.in_ok-push.ensures.items;
  above = all_low c.args.e c.loop-inner.at c.loop-inner.above.items c.push.new.self.items c.loop-inner.invariant.above
      c.loop-inner.invariant.low c.in_ok-push.ensures.items;
  low = omega (arith, c.in-Some.ensures.below, c.loop-inner.invariant.low);
}
