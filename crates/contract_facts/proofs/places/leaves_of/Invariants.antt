use Rattle.contract_facts.specs.Listed.{AreListed}
use Rattle.contract_facts.proofs.places.leaves_of.Given as goal

abbrev pub invariant-loop-leaf : goal.invariant-loop-leaf
invariant-loop-leaf l = AreListed l.set l.leaf l.leaves
