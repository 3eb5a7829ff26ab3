use Rattle.name_marks.specs.Prefixes.{reversed, Spine}
use Rattle.name_marks.proofs.prefixes.descend.Given as goal

abbrev pub invariant-loop-prefix : goal.invariant-loop-prefix
invariant-loop-prefix l = Spine l.units.exprs l.fn.e (reversed l.above.items) l.at

abbrev pub decreases-loop-prefix : goal.decreases-loop-prefix
decreases-loop-prefix l = l.at.0
