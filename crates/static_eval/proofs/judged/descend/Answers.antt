use Rattle.static_eval.proofs.Spines.{descended}
use Rattle.static_eval.proofs.judged.descend.Goals as goal

pub loop-first-preserved : goal.loop-first-preserved
loop-first-preserved c =
    let d = descended c.args.units.now.exprs c.args.e c.loop-first.at c.in-Some.first c.loop-first.above.items c.push.new.self.items
    c.loop-first.invariant.spine c.loop-first.invariant.above c.loop-first.invariant.low c.in-Some.ensures.child c.in-Some.ensures.below
    c.in_ok-push.ensures.items in
    record { spine = d.0; above = d.1; low = d.2 }
