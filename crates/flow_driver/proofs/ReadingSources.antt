-- The reading of a source, from the source that its bytes spell.
use Rattle.std.proofs.Common.{◌≡◌, List, ℕ, Option, Some, None, IfSome, subst}
use Rattle.std.specs.Prelude.{IfNone}
use Rattle.core_form.specs.declared.program.Program.{Program}
use Rattle.first_conditions.specs.Conditions.{MeetsConditions}
use Rattle.first_path.specs.Symbols.{Spells}
use Rattle.first_path.specs.declared.source.Source.{Source}
use Rattle.flow_driver.specs.Found.{IsLoweredFrom}
use Rattle.flow_driver.specs.Report.{IsReading}

pub read_one : (bytes : List ℕ) (s : Source) (o : Option Program) → Spells (record { 0 = 0 }) bytes s → ((t u : Source) → Spells (record { 0 = 0 }) bytes t → Spells (record { 0 = 0 }) bytes u → t ≡ u) → IfSome o (IsLoweredFrom s) → IfNone o (MeetsConditions s → ⊥) → IsReading bytes o
read_one bytes s (Some p) spells one some none =
    record { source = s; is_first = record { spells = spells; meets = some.meets }; lowered = some.lowered; fine = some.fine; proper = some.proper }
read_one bytes s None spells one some none = λ t h. none (subst MeetsConditions (one t s h.spells spells) h.meets)
