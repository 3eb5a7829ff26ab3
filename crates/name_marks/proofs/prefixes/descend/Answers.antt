use Rattle.name_marks.proofs.Spines.{descended}
use Rattle.name_marks.proofs.prefixes.descend.Goals as goal

pub loop-prefix-preserved : goal.loop-prefix-preserved
loop-prefix-preserved c =
    descended c.args.units.now.exprs c.args.e c.loop-prefix.at c.in-Some.prefix c.loop-prefix.above.items c.push.new.self.items
    c.loop-prefix.invariant c.in-Some.ensures.prefix c.in_ok-push.ensures.items
