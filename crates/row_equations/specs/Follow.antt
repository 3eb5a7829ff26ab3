-- The equations of all bodies of a program at once: which facts of rows follow from which.
use Rattle.std.specs.Prelude.{◌<◌, length}
use Rattle.core_form.specs.declared.program.Program.{Program}
use Rattle.least_solution.specs.Least.{least}
use Rattle.summary_rows.specs.declared.layout.Layout.{Layout}
use Rattle.summary_rows.specs.Facts.{Fact}
use Rattle.summary_rows.specs.Layout.{facts}
use Rattle.flow_relations.specs.Summaries.{equation_over}
use Rattle.row_equations.specs.Packing.{holds}

-- the row that the body has by its equation, where these facts are told, has the fact
unfoldable pub follows : Program → Layout → (Fact → Type 0) → Fact → Type 0
follows p l R f = (f.owner < length l.outer) × holds (equation_over p l R f.owner) f.part

-- the least solution of all bodies' equations: what as many applications of all at once as there are facts make of no facts
abbrev pub least_row : Program → Layout → Fact → Type 0
least_row p l f = least (facts l) (follows p l) f
