use Rattle.row_solver.specs.Solving.{IsSolving, room}
use Rattle.row_solver.proofs.solve.settle_all.Given as goal

abbrev pub invariant-loop : goal.invariant-loop
invariant-loop g l = IsSolving (g.E.RowEquations.layout l.equations) (g.E.RowEquations.follow l.equations) l.rows l.dirty

abbrev pub decreases-loop : goal.decreases-loop
decreases-loop g l = room (g.E.RowEquations.layout l.equations) l.rows
