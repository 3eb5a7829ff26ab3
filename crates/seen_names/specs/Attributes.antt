-- What attributes give, and of what.
use Rattle.std.specs.Prelude.{ℕ, Bool, true, false, ◌&&◌, if◌then◌else◌, nat_eq, Option, Some, None}
use Rattle.spark_base.specs.declared.numbers.TypeNo.{TypeNo}
use Rattle.ada_forms.specs.declared.attributes.Property.{Property}
use Rattle.ada_forms.specs.declared.attributes.Property.TheVariants as properties
use Rattle.seen_types.specs.declared.seen.ExprType.{ExprType}
use Rattle.seen_types.specs.declared.seen.ExprType.TheVariants as types
use Rattle.seen_types.specs.declared.seen.Shape.{Shape}
use Rattle.seen_types.specs.declared.seen.Shape.TheVariants as shapes
use Rattle.seen_types.specs.Types.{integer, shape, is_discrete, is_scalar, root}
use Rattle.seen_names.specs.declared.attributes.Bearer.{Bearer}
use Rattle.seen_names.specs.declared.attributes.Bearer.TheVariants as bearers
use Rattle.seen_names.specs.declared.attributes.Gift.{Gift}
use Rattle.seen_names.specs.declared.attributes.Gift.TheVariants as gifts
use Rattle.seen_names.specs.declared.entities.Entity.{Entity}
use Rattle.seen_names.specs.declared.entities.Entity.TheVariants as entities
use Rattle.seen_names.specs.Contexts.{Context, sight_at}
use Rattle.seen_names.specs.Entities.{made, as_value, type_in, sure_in, sure_as}

abbrev pub bearing_type : Option TypeNo → Bearer
bearing_type None = bearers.NoOne
bearing_type (Some t) = bearers.TheType t

abbrev pub bearing_value : Option ExprType → Bearer
bearing_value None = bearers.NoOne
bearing_value (Some t) = bearers.AValue t

-- what has the attribute
unfoldable pub bearer : Context → Entity → Bearer
bearer c (entities.Mark t) = bearing_type t
bearer c a = bearing_value (type_in (as_value c a))

abbrev pub unless_counted : ℕ → Gift → Gift
unless_counted count gift = if nat_eq count 0 then gift else gifts.WrongCount

abbrev pub bound_of : Context → Property → TypeNo → ℕ → Gift
bound_of c properties.Length t count = unless_counted count (gifts.Bound (types.Of integer))
bound_of c what t count = unless_counted count (gifts.Bound (root (sight_at c) (types.Of t)))

-- of an array its index; of a discrete type itself, but no length
abbrev pub range_gift : Context → Property → Bool → TypeNo → ℕ → Option Shape → Gift
range_gift c what is_type t count (Some (shapes.Array index of)) = bound_of c what index count
range_gift c properties.Length is_type t count s = gifts.NoRange
range_gift c what is_type t count s = if is_type && is_discrete s then bound_of c what t count else gifts.NoRange

abbrev pub of_bearer : Context → Property → ℕ → Bearer → Gift
of_bearer c what count bearers.NoOne = gifts.Unknown
of_bearer c what count (bearers.TheType t) = range_gift c what true t count (shape (sight_at c) t)
of_bearer c what count (bearers.AValue types.AnyInteger) = gifts.NoRange
of_bearer c what count (bearers.AValue (types.Of t)) = range_gift c what false t count (shape (sight_at c) t)

abbrev pub given : Bool → Bool → Gift → Gift
given has_order has_count gift = if has_order then (if has_count then gift else gifts.WrongCount) else gifts.NoOrder

abbrev pub own_values : Context → TypeNo → Gift
own_values c t = gifts.OfValues t (root (sight_at c) (types.Of t))

abbrev pub order_gift : Context → Property → ℕ → TypeNo → Gift
order_gift c properties.Min count t = given (is_scalar (shape (sight_at c) t)) (nat_eq count 2) (own_values c t)
order_gift c properties.Max count t = given (is_scalar (shape (sight_at c) t)) (nat_eq count 2) (own_values c t)
order_gift c properties.Pos count t =
    given (is_discrete (shape (sight_at c) t)) (nat_eq count 1) (gifts.OfValues t (types.Of integer))
order_gift c properties.Val count t =
    given (is_discrete (shape (sight_at c) t)) (nat_eq count 1) (gifts.OfPosition (root (sight_at c) (types.Of t)))
order_gift c what count t = given (is_discrete (shape (sight_at c) t)) (nat_eq count 1) (own_values c t)

abbrev pub of_type : Context → Property → ℕ → Bearer → Gift
of_type c what count bearers.NoOne = gifts.Unknown
of_type c what count (bearers.TheType t) = order_gift c what count t
of_type c what count (bearers.AValue t) = gifts.NoOrder

abbrev pub unless_denied : Entity → Gift
unless_denied entities.Nothing = gifts.Unknown
unless_denied _ = gifts.NoAttribute

-- what the attribute of a prefix gives, with so many arguments
unfoldable pub gift : Context → Property → Entity → ℕ → Gift
gift c properties.Other prefix count = unless_denied prefix
gift c properties.First prefix count = of_bearer c properties.First count (bearer c prefix)
gift c properties.Last prefix count = of_bearer c properties.Last count (bearer c prefix)
gift c properties.Length prefix count = of_bearer c properties.Length count (bearer c prefix)
gift c what prefix count = of_type c what count (bearer c prefix)

-- whether it is known if an argument is static, that decides it of the whole
abbrev pub is_sure_argument : Context → Gift → Entity → Bool
is_sure_argument c (gifts.OfValues t of) a = sure_as c t a
is_sure_argument c (gifts.OfPosition of) a = sure_in a
is_sure_argument c _ a = true

-- what the attribute stands for, where the arguments are sure or not
abbrev pub given_entity : Bool → Gift → Entity
given_entity is_sure (gifts.Bound t) = made true (Some t)
given_entity is_sure (gifts.OfValues t of) = made is_sure (Some of)
given_entity is_sure (gifts.OfPosition of) = made is_sure (Some of)
given_entity is_sure _ = entities.Nothing
