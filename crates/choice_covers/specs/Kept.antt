-- How what choices cover is kept.
use Rattle.std.specs.Prelude.{◌≡◌}
use Rattle.choice_covers.specs.declared.covers.Covered.{Covered}
use Rattle.choice_covers.specs.Covers.{Cover}
use Rattle.choice_covers.specs.Parts.{AreFilled}
use Rattle.choice_covers.specs.Runs.{AreApart, Hold}

pub record Stands (kept : Covered) (s : Cover) : Type 0 where
  pub apart : AreApart kept.runs
  pub hold : Hold kept.runs s.parts
  pub filled : AreFilled s.parts
  pub closed : kept.is_closed ≡ s.is_closed
  pub clear : kept.is_clear ≡ s.is_clear
