use Rattle.std.proofs.Common.{◌≡◌, take}
use Rattle.run_model.specs.Machine.{opening_leaves}
use Rattle.run_model.proofs.cells.opening_leaves.Given as goal

abbrev pub invariant-loop-leaf : goal.invariant-loop-leaf
invariant-loop-leaf l = l.leaves.items ≡ opening_leaves l.program (take l.leaf-index l.program.leaves)
