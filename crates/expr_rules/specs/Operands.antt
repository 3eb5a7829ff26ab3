-- How operands and branches are read, and what aggregates stand for.
use Rattle.std.specs.Prelude.{◌&&◌, if◌then◌else◌, Bool, true, not, Option, Some, None}
use Rattle.ada_forms.specs.Forms.{Expr}
use Rattle.ada_forms.specs.declared.forms.BinaryOperator.{BinaryOperator}
use Rattle.expr_outlines.specs.Outlines.{is_aggregate, is_equality}
use Rattle.value_rules.specs.Names.{mark_type}
use Rattle.part_slots.specs.Readings.{expecting}
use Rattle.part_slots.specs.declared.readings.Reading.{Reading}
use Rattle.part_slots.specs.declared.readings.Reading.TheVariants.{Free, Hidden, Wanted}
use Rattle.part_slots.specs.declared.slots.Slot.{Slot}
use Rattle.part_slots.specs.declared.slots.Slot.TheVariants.{Branch, Condition}
use Rattle.seen_names.specs.Contexts.{Context, sight_at}
use Rattle.seen_names.specs.Entities.{made}
use Rattle.seen_names.specs.declared.entities.Entity.{Entity}
use Rattle.seen_types.specs.Types.{is_composite, shape}
use Rattle.seen_types.specs.declared.seen.ExprType.{ExprType}
use Rattle.seen_types.specs.declared.seen.ExprType.TheVariants as types
use Rattle.value_rules.specs.Branches.{is_test}
use Rattle.value_rules.specs.declared.branches.Branches.{Branches}

-- an aggregate has the type that is expected, if that has components
abbrev pub aggregate_type : Context → Reading → Option ExprType
aggregate_type c (Wanted (types.Of t)) = if is_composite (shape (sight_at c) t) then Some (types.Of t) else None
aggregate_type c r = None

abbrev pub aggregate : Context → Reading → Entity
aggregate c r = made true (aggregate_type c r)

-- The branches of a conditional expression: a value is read as those before it tell

abbrev pub so_far : Reading → Option ExprType → Reading
so_far r None = r
so_far Free (Some t) = Wanted t
so_far r (Some t) = r

abbrev pub branch_slot : Reading → Branches → Bool → Slot
branch_slot r s is_last = if is_test s is_last then Condition else Branch (so_far r s.result) s.result

-- Operands

-- of `(1, 2) = X` the right one gives the type of the left
abbrev pub is_turned : BinaryOperator → Expr → Expr → Bool
is_turned operator left right = is_equality operator && is_aggregate left && not (is_aggregate right)

abbrev pub right_reading : BinaryOperator → Option ExprType → Reading
right_reading operator None = Hidden
right_reading operator (Some t) = if is_equality operator then Wanted t else Free

-- a value that is qualified by a mark
abbrev pub expected_of : Entity → Reading
expected_of a = expecting (mark_type a)
