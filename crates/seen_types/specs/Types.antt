-- Types as they are seen from a package, or from outside of all.
use Rattle.std.specs.Prelude.{ℕ, List, Bool, true, false, not, ◌||◌, if◌then◌else◌, nat_eq, slice_get, is_some, Option, Some, None}
use Rattle.spark_base.specs.declared.numbers.TypeNo.{TypeNo}
use Rattle.static_meanings.specs.declared.meanings.Range.{Range}
use Rattle.static_meanings.specs.Meanings.{type_at}
use Rattle.static_meanings.specs.Pairs.{told}
use Rattle.seen_types.specs.declared.seen.Seen.{Seen}
use Rattle.seen_types.specs.declared.seen.Shape.{Shape}
use Rattle.seen_types.specs.declared.seen.Shape.TheVariants as shapes
use Rattle.seen_types.specs.declared.seen.ExprType.{ExprType}
use Rattle.seen_types.specs.declared.seen.ExprType.TheVariants as types

-- types in the order of their declarations, and with the first type of a private one its full type, so far
pub record Types : Type 0 where
  pub seen : List Seen
  pub completions : List (ℕ × TypeNo)

-- types, and the package whose private part is seen, if one is
pub record Sight : Type 0 where
  pub types : Types
  pub home : Option ℕ

abbrev pub sight : Types → Option ℕ → Sight
sight types home = record { types = types; home = home }

abbrev pub is_number : Option ℕ → ℕ → Bool
is_number None n = false
is_number (Some m) n = nat_eq m n

-- The predefined types, by their numbers

abbrev pub boolean : TypeNo
boolean = type_at 0

abbrev pub integer : TypeNo
integer = type_at 1

abbrev pub moment : TypeNo
moment = type_at 4

abbrev pub duration : TypeNo
duration = type_at 5

abbrev pub or_type : Option TypeNo → TypeNo → TypeNo
or_type None t = t
or_type (Some u) t = u

abbrev pub maybe_of : Option TypeNo → Option ExprType
maybe_of None = None
maybe_of (Some t) = Some (types.Of t)

-- First types, and the full types of private ones

abbrev pub shape_seen : Option Seen → Option Shape
shape_seen None = None
shape_seen (Some s) = Some s.shape

abbrev pub first_seen : TypeNo → Option Seen → TypeNo
first_seen t None = t
first_seen t (Some s) = s.first

abbrev pub shape_at : Types → TypeNo → Option Shape
shape_at types t = shape_seen (slice_get types.seen t.0)

-- the first type; a full type has that of its private one
abbrev pub first : Types → TypeNo → TypeNo
first types t = first_seen t (slice_get types.seen t.0)

abbrev pub full_or : Types → TypeNo → TypeNo → TypeNo
full_or types first t = or_type (told types.completions first.0) t

abbrev pub view_by : Sight → TypeNo → Option Shape → TypeNo
view_by v t (Some (shapes.Private home)) = if is_number v.home home then full_or v.types (first v.types t) t else t
view_by v t _ = t

-- in its own package, a private type that is completed is seen as its full type
abbrev pub view : Sight → TypeNo → TypeNo
view v t = view_by v t (shape_at v.types t)

unfoldable pub shape : Sight → TypeNo → Option Shape
shape v t = shape_at v.types (view v t)

-- Kinds of types

abbrev pub is_integers : Option Shape → Bool
is_integers (Some (shapes.Integers range)) = true
is_integers _ = false

abbrev pub is_modular : Option Shape → Bool
is_modular (Some (shapes.Integers range)) = is_some range.modular
is_modular _ = false

abbrev pub is_discrete : Option Shape → Bool
is_discrete (Some (shapes.Integers range)) = true
is_discrete (Some (shapes.Enumeration range)) = true
is_discrete _ = false

abbrev pub is_scalar : Option Shape → Bool
is_scalar (Some shapes.Moment) = true
is_scalar (Some shapes.Duration) = true
is_scalar s = is_discrete s

abbrev pub is_array : Option Shape → Bool
is_array (Some (shapes.Array index of)) = true
is_array _ = false

abbrev pub is_private : Option Shape → Bool
is_private (Some (shapes.Private home)) = true
is_private _ = false

-- protected types and task types
abbrev pub is_limited : Option Shape → Bool
is_limited (Some (shapes.Protected unit)) = true
is_limited (Some shapes.Task) = true
is_limited _ = false

abbrev pub is_composite : Option Shape → Bool
is_composite (Some (shapes.Fields fields)) = true
is_composite s = is_array s

-- the range of a discrete type
abbrev pub bounds_in : Option Shape → Option Range
bounds_in (Some (shapes.Integers range)) = Some range
bounds_in (Some (shapes.Enumeration range)) = Some range
bounds_in _ = None

abbrev pub bounds : Sight → TypeNo → Option Range
bounds v t = bounds_in (shape v t)

abbrev pub range_in : Sight → Option Shape → Option Range
range_in v (Some (shapes.Array index of)) = bounds v index
range_in v s = bounds_in s

-- the range of a discrete type, and of an array that of its index
unfoldable pub range_of : Sight → TypeNo → Option Range
range_of v t = range_in v (shape v t)

-- The types of expressions: "any integer" has no shape

abbrev pub shape_of : Sight → ExprType → Option Shape
shape_of v types.AnyInteger = None
shape_of v (types.Of t) = shape v t

abbrev pub is_integral : Sight → ExprType → Bool
is_integral v types.AnyInteger = true
is_integral v (types.Of t) = is_integers (shape v t)

abbrev pub is_countable : Sight → ExprType → Bool
is_countable v types.AnyInteger = true
is_countable v (types.Of t) = is_discrete (shape v t)

abbrev pub is_comparable : Sight → ExprType → Bool
is_comparable v types.AnyInteger = true
is_comparable v (types.Of t) = is_scalar (shape v t)

abbrev pub is_same : Types → TypeNo → TypeNo → Bool
is_same types a b = nat_eq (first types a).0 (first types b).0

-- whether values of one stand where the other is expected
unfoldable pub fits : Sight → ExprType → ExprType → Bool
fits v types.AnyInteger b = is_integral v b
fits v a types.AnyInteger = is_integral v a
fits v (types.Of a) (types.Of b) = is_same v.types a b

-- whether it comes from this predefined type
abbrev pub is_of : Sight → TypeNo → ExprType → Bool
is_of v t types.AnyInteger = false
is_of v t (types.Of a) = is_same v.types a t

abbrev pub widest : Sight → TypeNo → TypeNo
widest v t = if is_private (shape v t) then first v.types t else full_or v.types (first v.types t) (first v.types t)

-- the type of what an operator makes: the first type, the full one where it is seen
abbrev pub root : Sight → ExprType → ExprType
root v types.AnyInteger = types.AnyInteger
root v (types.Of t) = types.Of (widest v t)

-- Conditions on types: what has none breaks no rule

abbrev pub misfits : Sight → Option ExprType → Option ExprType → Bool
misfits v (Some a) (Some b) = not (fits v a b)
misfits v a b = false

abbrev pub lacks : (ExprType → Bool) → Option ExprType → Bool
lacks is_kind None = false
lacks is_kind (Some a) = not (is_kind a)

-- a value that does not fit what is expected, or that no one can be given
abbrev pub is_unfit : Sight → Option ExprType → Option ExprType → Bool
is_unfit v (Some a) (Some b) = not (fits v a b) || is_limited (shape_of v b)
is_unfit v a b = false
