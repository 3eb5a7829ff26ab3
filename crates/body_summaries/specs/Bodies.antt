-- Layouts of the rows of a program's bodies, and that the bodies' equations over them can be solved.
use Rattle.std.specs.Prelude.{◌≡◌, ℕ, ◌<◌, length}
use Rattle.core_form.specs.declared.program.Program.{Program}
use Rattle.core_form.specs.Fine.{IsWellFormed}
use Rattle.summary_rows.specs.declared.layout.Layout.{Layout}
use Rattle.summary_rows.specs.Layout.{IsLayout}
use Rattle.flow_relations.specs.Summaries.{row_leaf_of}
use Rattle.row_solver.specs.Equations.{IsEquation}
use Rattle.row_equations.specs.Follow.{follows}
use Rattle.row_equations.proofs.Following as laws

-- of the bodies of a program, and of its leaves
pub record IsLayoutFor (p : Program) (l : Layout) : Type 0 where
  pub layout : IsLayout l
  pub bodies : length l.outer ≡ length p.bodies
  pub leaves : (b v : ℕ) → row_leaf_of l b v → v < length p.leaves

-- rows of a well-formed program can be made over it
pub record AreFit (p : Program) (l : Layout) : Type 0 where
  pub fine : IsWellFormed p
  pub layout : IsLayoutFor p l

pub is_equation : (p : Program) (l : Layout) → IsEquation l (laws.calls_of p) (follows p l)
is_equation p l = record { stands = laws.facts_stand p l; sees = laws.sees p l }
