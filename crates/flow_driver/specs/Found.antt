-- Messages that are added to others.
use Rattle.std.specs.Prelude.{◌≡◌, List, ◌++◌}
use Rattle.core_form.specs.Fine.{IsWellFormed}
use Rattle.core_form.specs.Proper.{IsProper}
use Rattle.core_form.specs.declared.program.Program.{Program}
use Rattle.first_lower.specs.Lowered.{IsLowered}
use Rattle.first_conditions.specs.Conditions.{MeetsConditions}
use Rattle.first_path.specs.declared.source.Source.{Source}
use Rattle.spark_messages.specs.declared.messages.Message.{Message}

-- some messages of this kind are added at the end
pub record Appends (P : List Message → Type 0) (old new : List Message) : Type 0 where
  pub found : List Message
  pub are_found : P found
  pub grew : new ≡ old ++ found

-- the program of a source that meets the conditions
pub record IsLoweredFrom (s : Source) (p : Program) : Type 0 where
  pub meets : MeetsConditions s
  pub lowered : IsLowered s p
  pub fine : IsWellFormed p
  pub proper : IsProper p
