use Rattle.std.proofs.Common.{◌≡◌, take}
use Rattle.contract_facts.proofs.seen.copy_of.Given as goal

abbrev pub invariant-loop-leaf : goal.invariant-loop-leaf
invariant-loop-leaf l = l.copy ≡ take l.leaf-index l.leaves
