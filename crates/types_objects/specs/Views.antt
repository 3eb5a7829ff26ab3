-- How types are seen at a place, and what fits what there.
use Rattle.std.specs.Prelude.{ℕ, Bool, true, false, ◌&&◌, nat_eq, List, Option, Some, None, slice_get}
use Rattle.spark_base.specs.declared.numbers.DeclNo.{DeclNo}
use Rattle.spark_base.specs.declared.numbers.TypeNo.{TypeNo}
use Rattle.static_meanings.specs.Pairs.{told}
use Rattle.types_objects.specs.declared.types.TypeDef.{TypeDef}
use Rattle.types_objects.specs.declared.types.Types.{Types}
use Rattle.types_objects.specs.declared.views.Sight.{Sight}
use Rattle.types_objects.specs.declared.views.ValueType.{ValueType}
use Rattle.types_objects.specs.declared.views.ValueType.TheVariants as values
use Rattle.types_objects.specs.Firsts.{first_of}
use Rattle.types_objects.specs.Ranges.{is_integer}

abbrev pub decl_in : Option TypeDef → Option DeclNo
decl_in None = None
decl_in (Some x) = x.decl

-- the declaration that made the first type of a type; a predefined one has none
abbrev pub made_from : Types → TypeNo → Option DeclNo
made_from types t = decl_in (slice_get types.list (first_of types t).0)

-- the package in whose private part or body a declaration stands
abbrev pub home_of : List (ℕ × DeclNo) → Option DeclNo → Option DeclNo
home_of homes None = None
home_of homes (Some d) = told homes d.0

-- what stands in no private part and no body is seen everywhere, all else in its own package alone
abbrev pub is_open : Option DeclNo → Option DeclNo → Bool
is_open inside None = true
is_open None (Some home) = false
is_open (Some p) (Some home) = nat_eq p.0 home.0

-- whether the full type is seen: elsewhere it is a private type
abbrev pub is_full : Sight → Types → TypeNo → Bool
is_full sight types t = is_open sight.inside (home_of sight.homes (made_from types t))

-- whether a type is seen to be one of whole numbers
abbrev pub counts_here : Sight → Types → TypeNo → Bool
counts_here sight types t = is_integer types t && is_full sight types t

-- types fit where their first types are the same; a number of any integer type fits each that is seen to be one
abbrev pub fits : Sight → Types → ValueType → ValueType → Bool
fits sight types values.AnyInteger values.AnyInteger = true
fits sight types values.AnyInteger (values.Of t) = counts_here sight types t
fits sight types (values.Of t) values.AnyInteger = counts_here sight types t
fits sight types (values.Of t) (values.Of u) = nat_eq (first_of types t).0 (first_of types u).0
