-- Tables of units by the numbers of names. No public answer speaks of them.
use Rattle.std.specs.Prelude.{◌≡◌, ℕ, Bool, true, false, List, Option}
use Rattle.std.specs.Ordering.{nat_cmp}
use Rattle.std.specs.BTreeMap.{BTreeMap, get}
use Rattle.unit_names.specs.declared.heads.Head.{Head}
use Rattle.unit_order.specs.declared.listed.Tables.{Tables}
use Rattle.unit_order.specs.Packages.{part_by, unit_of}

abbrev pub got : BTreeMap ℕ ℕ → ℕ → Option ℕ
got table name = get nat_cmp table name

-- the table has for each name the first spec, or the first body
abbrev pub IsTable : List Head → Bool → BTreeMap ℕ ℕ → Type 0
IsTable heads is_body table = (name : ℕ) → got table name ≡ unit_of heads (part_by is_body) name

pub record AreTables (heads : List Head) (tables : Tables) : Type 0 where
  pub specs : IsTable heads false tables.specs
  pub bodies : IsTable heads true tables.bodies
