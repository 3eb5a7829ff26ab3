use Rattle.std.proofs.Common.{◌≡◌, arith}
use Rattle.std.proofs.lemmas.Grind.{common_steps}
use Rattle.run_model.specs.Machine.{opening_leaves}
use Rattle.run_model.proofs.Lists.{opening_sized}
use Rattle.run_model.proofs.cells.opening_leaves.Goals as goal

pub returns-clause-sized : goal.returns-clause-sized
returns-clause-sized c =
    let all : c.loop-leaf.leaves.items ≡ opening_leaves c.args.program.now c.args.program.now.leaves = grind (arith, common_steps, c.loop-leaf.invariant) in
    rw all (opening_sized c.args.program.now)
