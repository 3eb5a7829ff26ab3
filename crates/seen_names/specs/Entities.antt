-- What a name stands for, before it is taken as a value.
use Rattle.std.specs.Prelude.{ℕ, Bool, true, false, not, ◌&&◌, if◌then◌else◌, nat_eq, List, slice_get, is_some, Option, Some, None}
use Rattle.std.specs.Map.{lookup}
use Rattle.spark_base.specs.declared.name.Name.{Name}
use Rattle.spark_base.specs.declared.numbers.TypeNo.{TypeNo}
use Rattle.name_findings.specs.declared.findings.Mention.{Mention}
use Rattle.seen_types.specs.declared.seen.ExprType.{ExprType}
use Rattle.seen_types.specs.declared.seen.ExprType.TheVariants as types
use Rattle.seen_types.specs.declared.seen.FieldSeen.{FieldSeen}
use Rattle.seen_types.specs.declared.seen.Shape.{Shape}
use Rattle.seen_types.specs.declared.seen.Shape.TheVariants as shapes
use Rattle.seen_types.specs.Types.{moment, duration, maybe_of, shape, is_unfit}
use Rattle.seen_names.specs.declared.entities.Entity.{Entity}
use Rattle.seen_names.specs.declared.entities.Entity.TheVariants as entities
use Rattle.seen_names.specs.declared.entities.Valued.{Valued}
use Rattle.seen_names.specs.declared.selections.Selection.{Selection}
use Rattle.seen_names.specs.declared.selections.Selection.TheVariants as selections
use Rattle.seen_names.specs.declared.shown.Callable.{Callable}
use Rattle.seen_names.specs.declared.shown.Role.{Role}
use Rattle.seen_names.specs.declared.shown.Role.TheVariants as roles
use Rattle.seen_names.specs.declared.shown.Shown.{Shown}
use Rattle.seen_names.specs.declared.shown.Subprogram.{Subprogram}
use Rattle.seen_names.specs.declared.shown.Subprogram.TheVariants as forms
use Rattle.seen_names.specs.declared.shown.Value.{Value}
use Rattle.seen_names.specs.declared.shown.Value.TheVariants as values
use Rattle.seen_names.specs.declared.shown.What.{What}
use Rattle.seen_names.specs.declared.shown.What.TheVariants as whats
use Rattle.seen_names.specs.Contexts.{Context, sight_at, key_of, member, operation}

abbrev pub is_sure_value : Value → Bool
is_sure_value values.Unsure = false
is_sure_value _ = true

-- a value that is no object
abbrev pub made_by : Option Mention → Bool → Option ExprType → Entity
made_by source is_sure of =
    entities.Valuable (record { of = of; role = roles.Fixed; source = source; value = values.NotStatic; is_sure = is_sure })

-- none of no type
abbrev pub made : Bool → Option ExprType → Entity
made is_sure None = entities.Nothing
made is_sure (Some t) = made_by None is_sure (Some t)

-- what is denoted by a name at a place
abbrev pub of_what : Mention → Bool → What → Entity
of_what m is_behind (whats.Package p) = entities.Package p
of_what m is_behind (whats.Mark t) = entities.Mark t
of_what m is_behind (whats.Object role of value) =
    entities.Valuable (record { of = of; role = role; source = Some m; value = value; is_sure = is_sure_value value })
of_what m is_behind (whats.Subprogram n) = entities.Called m is_behind n
of_what m is_behind whats.Clock = entities.Clock m
of_what m is_behind (whats.Product factor) = entities.Product m factor
of_what m is_behind whats.Other = entities.Other

abbrev pub of_shown : Mention → Option Shown → Entity
of_shown m None = entities.Nothing
of_shown m (Some s) = of_what m false s.what

-- Values

abbrev pub is_function : Subprogram → Bool
is_function forms.Function = true
is_function _ = false

abbrev pub gives : Mention → Option Callable → Entity
gives m None = entities.Nothing
gives m (Some f) = if is_function f.form then made_by (Some m) true (maybe_of f.result) else entities.Nothing

-- what a function gives
abbrev pub call_result : Context → Mention → ℕ → Entity
call_result c m n = gives m (slice_get c.tables.callables n)

-- a function that stands alone is called
unfoldable pub as_value : Context → Entity → Entity
as_value c (entities.Valuable v) = entities.Valuable v
as_value c (entities.Called m is_behind n) = call_result c m n
as_value c (entities.Clock m) = made_by (Some m) true (Some (types.Of moment))
as_value c (entities.Product m factor) = made_by (Some m) false (Some (types.Of duration))
as_value c _ = entities.Nothing

abbrev pub type_in : Entity → Option ExprType
type_in (entities.Valuable v) = v.of
type_in _ = None

abbrev pub sure_in : Entity → Bool
sure_in (entities.Valuable v) = is_some v.of && v.is_sure
sure_in _ = false

-- a value of this type that is expected
abbrev pub sure_as : Context → TypeNo → Entity → Bool
sure_as c t a = sure_in a && not (is_unfit (sight_at c) (type_in a) (Some (types.Of t)))

-- Selections

abbrev pub component : Valued → Option FieldSeen → Selection
component v None = selections.NoComponent
component v (Some f) = selections.Component v f

-- the component of a name of this number
abbrev pub component_in : Valued → Option ℕ → List (ℕ × FieldSeen) → Selection
component_in v None fields = selections.NoComponent
component_in v (Some key) fields = component v (lookup (nat_eq key) fields)

abbrev pub is_subprogram : What → Bool
is_subprogram (whats.Subprogram n) = true
is_subprogram _ = false

abbrev pub an_operation : Option Shown → Selection
an_operation None = selections.NoComponent
an_operation (Some s) = if is_subprogram s.what then selections.Operation s else selections.NoComponent

-- a protected object as a whole has operations
abbrev pub behind_object : Context → Role → ℕ → Name → Selection
behind_object c roles.ProtectedObject unit name = an_operation (operation c unit name)
behind_object c role unit name = selections.NoComponent

abbrev pub behind_shape : Context → Valued → Name → Option Shape → Selection
behind_shape c v name (Some (shapes.Fields fields)) = component_in v (key_of c.tables name) fields
behind_shape c v name (Some (shapes.Protected unit)) = behind_object c v.role unit name
behind_shape c v name _ = selections.NoComponent

abbrev pub behind_type : Context → Valued → Name → Option ExprType → Selection
behind_type c v name None = selections.OfNothing
behind_type c v name (Some types.AnyInteger) = selections.NoComponent
behind_type c v name (Some (types.Of t)) = behind_shape c v name (shape (sight_at c) t)

abbrev pub behind_value : Context → Name → Entity → Selection
behind_value c name (entities.Valuable v) = behind_type c v name v.of
behind_value c name _ = selections.OfNothing

-- what stands behind a point
unfoldable pub selection : Context → Name → Entity → Selection
selection c name (entities.Package p) = selections.InPackage (member c p name)
selection c name prefix = behind_value c name (as_value c prefix)

-- a part of an object is written as the object is
abbrev pub part : Valued → TypeNo → Entity
part v t =
    entities.Valuable (record { of = Some (types.Of t); role = v.role; source = v.source; value = values.NotStatic; is_sure = true })

abbrev pub selected : Mention → Selection → Entity
selected m (selections.InPackage s) = of_shown m s
selected m (selections.Component v f) = part v f.of
selected m (selections.Operation s) = of_what m true s.what
selected m _ = entities.Nothing
