-- What holds of each table of types.
use Rattle.std.specs.Prelude.{◌≡◌, ◌≤◌, length}
use Rattle.types_objects.specs.declared.types.Types.{Types}
use Rattle.types_objects.specs.Counts.{AreCounted}
use Rattle.types_objects.specs.Types.{IsRanked}

-- Integer is there, each type has a first type and stands behind what it is made of, and tells the number of its leaves
pub record IsTable (t : Types) : Type 0 where
  pub some : 2 ≤ length t.list
  pub firsts : length t.first ≡ length t.list
  pub ranked : IsRanked t.list
  pub counted : AreCounted t.list
