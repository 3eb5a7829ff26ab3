-- What a report without an error says of runs.
use Rattle.std.specs.Prelude.{ℕ, List}
use Rattle.core_form.specs.declared.program.Program.{Program}
use Rattle.run_laws.specs.Laws.{HasCleanRuns}
use Rattle.flow_driver.specs.Report.{IsProgram}

-- the sources have a program, and the runs of each of their programs are clean
pub record HaveCleanRuns (sources : List (List ℕ)) : Type 0 where
  pub program : Program
  pub is_program : IsProgram sources program
  pub clean : (p : Program) → IsProgram sources p → HasCleanRuns p
