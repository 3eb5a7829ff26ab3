use Rattle.std.proofs.Common.{◌≡◌, ℕ, ◌<◌, IsTrue, false}
use Rattle.call_lists.specs.Lists.{NamesBelow, Has}
use Rattle.row_solver.specs.Solving.{IsSolving, room}
use Rattle.row_solver.proofs.solve.sweep.Given as goal

abbrev pub invariant-loop-b : goal.invariant-loop-b
invariant-loop-b g l = record {
  solving : IsSolving (g.E.RowEquations.layout l.equations) (g.E.RowEquations.follow l.equations) l.rows l.dirty;
  room : IsTrue l.grew → room (g.E.RowEquations.layout l.equations) l.rows < room (g.E.RowEquations.layout l.equations) l.initial.rows;
  same : l.grew ≡ false → l.rows ≡ l.initial.rows;
  quiet : l.grew ≡ false → (c : ℕ) → Has l.dirty c → Has l.initial.dirty c × (NamesBelow l.b-index l.list c → ⊥);
}
