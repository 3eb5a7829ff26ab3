use Rattle.flow_relations.specs.Framing.{AreNumbered}
use Rattle.flow_relations.proofs.frame.frame_from.Given as goal

abbrev pub invariant-loop-leaf : goal.invariant-loop-leaf
invariant-loop-leaf l = AreNumbered l.inside l.leaf l.leaves.items l.numbers.items
