-- The types that operators take, and those of what they make.
use Rattle.std.specs.Prelude.{Bool, true, false, not, ◌&&◌, ◌||◌, if◌then◌else◌, Option, Some, None}
use Rattle.ada_tree.specs.declared.expressions.AddingOperator.{AddingOperator}
use Rattle.ada_tree.specs.declared.expressions.AddingOperator.TheVariants as signs
use Rattle.ada_tree.specs.declared.expressions.LogicalOperator.{LogicalOperator}
use Rattle.ada_tree.specs.declared.expressions.LogicalOperator.TheVariants as logicals
use Rattle.ada_tree.specs.declared.expressions.RelationalOperator.{RelationalOperator}
use Rattle.ada_tree.specs.declared.expressions.RelationalOperator.TheVariants as relations
use Rattle.ada_forms.specs.declared.forms.BinaryOperator.{BinaryOperator}
use Rattle.ada_forms.specs.declared.forms.BinaryOperator.TheVariants as between
use Rattle.ada_forms.specs.declared.forms.UnaryOperator.{UnaryOperator}
use Rattle.ada_forms.specs.declared.forms.UnaryOperator.TheVariants as before
use Rattle.seen_types.specs.declared.seen.Shape.{Shape}
use Rattle.seen_types.specs.declared.seen.Shape.TheVariants as shapes
use Rattle.seen_types.specs.declared.seen.ExprType.{ExprType}
use Rattle.seen_types.specs.declared.seen.ExprType.TheVariants as types
use Rattle.seen_types.specs.Types.{Sight, boolean, integer, moment, duration, shape_of, fits, is_of, is_same, is_integral, is_comparable, is_modular, is_limited, root}

abbrev pub only_if : Bool → ExprType → Option ExprType
only_if holds t = if holds then Some t else None

abbrev pub or_else : Option ExprType → Option ExprType → Option ExprType
or_else None b = b
or_else (Some a) b = Some a

-- any integer gives way to a type
abbrev pub common : Sight → ExprType → ExprType → ExprType
common v types.AnyInteger b = root v b
common v a b = root v a

-- moments and durations
abbrev pub time_sum : AddingOperator → Option Shape → Option Shape → Option ExprType
time_sum operator (Some shapes.Moment) (Some shapes.Duration) = Some (types.Of moment)
time_sum signs.Plus (Some shapes.Duration) (Some shapes.Moment) = Some (types.Of moment)
time_sum signs.Minus (Some shapes.Moment) (Some shapes.Moment) = Some (types.Of duration)
time_sum operator (Some shapes.Duration) (Some shapes.Duration) = Some (types.Of duration)
time_sum operator a b = None

abbrev pub arithmetic : Sight → ExprType → ExprType → Option ExprType
arithmetic v a b = only_if (is_integral v a && is_integral v b && fits v a b) (common v a b)

abbrev pub is_exponent : Sight → ExprType → Bool
is_exponent v types.AnyInteger = true
is_exponent v (types.Of t) = is_same v.types t integer

abbrev pub are_boolean : Sight → ExprType → ExprType → Bool
are_boolean v a b = is_of v boolean a && is_of v boolean b

-- one side of a modular type: any integer fits the other
abbrev pub bitwise : Sight → ExprType → ExprType → Option ExprType
bitwise v a b = only_if ((is_modular (shape_of v a) || is_modular (shape_of v b)) && fits v a b) (common v a b)

abbrev pub logical_type : Sight → LogicalOperator → ExprType → ExprType → Option ExprType
logical_type v logicals.AndThen a b = only_if (are_boolean v a b) (types.Of boolean)
logical_type v logicals.OrElse a b = only_if (are_boolean v a b) (types.Of boolean)
logical_type v operator a b = or_else (only_if (are_boolean v a b) (types.Of boolean)) (bitwise v a b)

abbrev pub are_equatable : Sight → ExprType → ExprType → Bool
are_equatable v a b = not (is_limited (shape_of v a)) && fits v a b

abbrev pub are_ordered : Sight → ExprType → ExprType → Bool
are_ordered v a b = fits v a b && is_comparable v a && is_comparable v b

abbrev pub relation_type : Sight → RelationalOperator → ExprType → ExprType → Option ExprType
relation_type v relations.Equal a b = only_if (are_equatable v a b) (types.Of boolean)
relation_type v relations.NotEqual a b = only_if (are_equatable v a b) (types.Of boolean)
relation_type v operator a b = only_if (are_ordered v a b) (types.Of boolean)

-- the type of `A op B`; none where the operator does not take these types
unfoldable pub binary_type : Sight → BinaryOperator → ExprType → ExprType → Option ExprType
binary_type v (between.Logical operator) a b = logical_type v operator a b
binary_type v (between.Relation operator) a b = relation_type v operator a b
binary_type v (between.Sum operator) a b = or_else (time_sum operator (shape_of v a) (shape_of v b)) (arithmetic v a b)
binary_type v (between.Product operator) a b = arithmetic v a b
binary_type v between.Power a b = only_if (is_integral v a && is_exponent v b) (root v a)

abbrev pub is_negatable : Sight → ExprType → Bool
is_negatable v a = is_of v boolean a || is_modular (shape_of v a)

-- the type of `op A`
unfoldable pub unary_type : Sight → UnaryOperator → ExprType → Option ExprType
unary_type v before.Not a = only_if (is_negatable v a) (root v a)
unary_type v operator a = only_if (is_integral v a) (root v a)

abbrev pub are_comparable : Sight → ExprType → ExprType → ExprType → Bool
are_comparable v a low high = is_comparable v a && is_comparable v low && is_comparable v high

abbrev pub all_fit : Sight → ExprType → ExprType → ExprType → Bool
all_fit v a low high = fits v a low && fits v a high && fits v low high

-- `A in L .. H`
unfoldable pub in_range_type : Sight → ExprType → ExprType → ExprType → Option ExprType
in_range_type v a low high = only_if (all_fit v a low high && are_comparable v a low high) (types.Of boolean)

-- Of parts one of which has no type nothing is made, and no rule of types is broken

abbrev pub binary_of : Sight → BinaryOperator → Option ExprType → Option ExprType → Option ExprType
binary_of v operator (Some a) (Some b) = binary_type v operator a b
binary_of v operator a b = None

abbrev pub unary_of : Sight → UnaryOperator → Option ExprType → Option ExprType
unary_of v operator (Some a) = unary_type v operator a
unary_of v operator None = None

abbrev pub in_range_of : Sight → Option ExprType → Option ExprType → Option ExprType → Option ExprType
in_range_of v (Some a) (Some low) (Some high) = in_range_type v a low high
in_range_of v a low high = None

abbrev pub in_mark_of : Sight → Option ExprType → Option ExprType → Option ExprType
in_mark_of v (Some a) (Some b) = only_if (fits v a b) (types.Of boolean)
in_mark_of v a b = None

abbrev pub is_none : Option ExprType → Bool
is_none None = true
is_none (Some t) = false

abbrev pub are_typed : Option ExprType → Option ExprType → Bool
are_typed (Some a) (Some b) = true
are_typed a b = false

-- typed parts of which nothing is made
abbrev pub do_not_go : Option ExprType → Option ExprType → Option ExprType → Bool
do_not_go a b made = are_typed a b && is_none made
