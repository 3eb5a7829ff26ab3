-- The rows over which the flow of a body is asked for.
use Rattle.std.specs.Prelude.{◌≡◌, ℕ, ◌<◌, length}
use Rattle.core_form.specs.declared.program.Program.{Program}
use Rattle.summary_rows.specs.declared.rows.Rows.{Rows}
use Rattle.summary_rows.specs.Layout.{AreRows}
use Rattle.flow_relations.specs.Summaries.{row_leaf_of}

-- rows of the bodies of a program, whose leaves are the program's
pub record AreRowsOf (p : Program) (rows : Rows) : Type 0 where
  pub words : AreRows rows
  pub bodies : length rows.layout.outer ≡ length p.bodies
  pub leaves : (b v : ℕ) → row_leaf_of rows.layout b v → v < length p.leaves
