-- The context of a place, and what a name denotes there.
use Rattle.std.specs.Prelude.{ℕ, Bool, ◌||◌, if◌then◌else◌, nat_lt, position, Option, Some, None}
use Rattle.std.specs.Str.{bytes_eq}
use Rattle.spark_base.specs.declared.name.Name.{Name}
use Rattle.scope_table.specs.Scopes.{latest}
use Rattle.use_table.specs.declared.members.Member.{Member}
use Rattle.use_table.specs.Uses.{Known, member_of, visible_by_use}
use Rattle.seen_types.specs.Types.{Sight, is_number, sight}
use Rattle.seen_names.specs.declared.context.Place.{Place}
use Rattle.seen_names.specs.declared.context.Tables.{Tables}
use Rattle.seen_names.specs.declared.shown.Shown.{Shown}

-- what is declared, and from where it is seen
pub record Context : Type 0 where
  pub tables : Tables
  pub place : Place

abbrev pub context : Tables → Place → Context
context tables place = record { tables = tables; place = place }

-- types, as they are seen from here
abbrev pub sight_at : Context → Sight
sight_at c = sight c.tables.types c.place.home

abbrev pub key_of : Tables → Name → Option ℕ
key_of tables name = position (bytes_eq name.key) tables.keys

-- of a declaration and a loop's parameter the one of the inner region
abbrev pub inner_of : Option Shown → Option Shown → Option Shown
inner_of a None = a
inner_of None (Some p) = Some p
inner_of (Some a) (Some p) = if nat_lt a.region p.region then Some p else Some a

-- what open regions declare comes before what use clauses show
abbrev pub or_used : Option Shown → Option Shown → Option Shown
or_used None used = used
or_used (Some s) used = Some s

abbrev pub visible_key : Tables → Option ℕ → Option Shown
visible_key tables None = None
visible_key tables (Some key) = or_used (inner_of (latest key tables.opens) (latest key tables.params)) (visible_by_use tables.members key)

-- what a name denotes that begins here
unfoldable pub visible : Tables → Name → Option Shown
visible tables name = visible_key tables (key_of tables name)

-- a declaration that is visible, or is seen from within
abbrev pub seen_by : Bool → Option (Member Shown) → Option Shown
seen_by is_inside None = None
seen_by is_inside (Some m) = if m.is_visible || is_inside then Some m.shown else None

abbrev pub member_key : Known Shown → ℕ → Bool → Option ℕ → Option Shown
member_key known home is_inside None = None
member_key known home is_inside (Some key) = seen_by is_inside (member_of known home key)

-- what a name denotes behind a package and a point: in its own package the private part and the body are seen
unfoldable pub member : Context → ℕ → Name → Option Shown
member c home name = member_key c.tables.members home (is_number c.place.home home) (key_of c.tables name)

-- the operation of a protected unit: private ones are seen in its body alone
unfoldable pub operation : Context → ℕ → Name → Option Shown
operation c unit name = member_key c.tables.operations unit (is_number c.place.unit unit) (key_of c.tables name)
