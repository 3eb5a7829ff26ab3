-- What expressions stand for, and their types.
use Rattle.std.specs.Prelude.{if◌then◌else◌, ◌∷◌, true, List, Option, Some, []}
use Rattle.ada_forms.specs.Forms.{Applied, Argument, Attribute, Binary, Conditional, End, Expr, Exprs, Identifier, InMark, InRange, Named, NamedArgument, Number, Parenthesized, Positional, Qualified, Selected, Then, Unary}
use Rattle.expr_outlines.specs.Outlines.{count_of, ends, is_aggregate, trees}
use Rattle.expr_rules.specs.Arguments.{applied_to, given_by}
use Rattle.expr_rules.specs.Names.{read}
use Rattle.expr_rules.specs.Operands.{aggregate, branch_slot, expected_of, is_turned, right_reading}
use Rattle.value_rules.specs.Attributes.{attribute_of}
use Rattle.value_rules.specs.Branches.{conditional, no_branches, with_branch, with_condition}
use Rattle.value_rules.specs.Names.{named_entity, selected_entity}
use Rattle.value_rules.specs.Operators.{binary, in_range, meant_within, unary_entity}
use Rattle.value_rules.specs.declared.branches.Branches.{Branches}
use Rattle.name_marks.specs.Marks.{mark_of}
use Rattle.part_slots.specs.Calls.{argument_slots, gift_slots}
use Rattle.part_slots.specs.Readings.{as_reading, expecting, tested_reading}
use Rattle.part_slots.specs.Slots.{slot_at, slot_reading, slots_behind}
use Rattle.part_slots.specs.declared.readings.Reading.{Reading}
use Rattle.part_slots.specs.declared.readings.Reading.TheVariants.{AsName, Free}
use Rattle.part_slots.specs.declared.slots.Slot.{Slot}
use Rattle.seen_names.specs.Applications.{application, qualified}
use Rattle.seen_names.specs.Contexts.{Context, sight_at}
use Rattle.seen_names.specs.Entities.{made, type_in}
use Rattle.seen_names.specs.declared.entities.Entity.{Entity}
use Rattle.seen_names.specs.declared.entities.Entity.TheVariants.{Nothing}
use Rattle.seen_types.specs.Operators.{in_mark_of, unary_of}
use Rattle.seen_types.specs.declared.seen.ExprType.{ExprType}
use Rattle.seen_types.specs.declared.seen.ExprType.TheVariants as types

abbrev mutual
  -- what an expression stands for where it is read so; a part that was refused hides the whole
  pub meant : Context → Reading → Expr → Entity
  meant c r (Number e at n) = made true (Some types.AnyInteger)
  meant c r (Identifier e at name) = read c r (named_entity c e at name)
  meant c r (Selected e at name prefix) = read c r (selected_entity c e at name (meant c AsName prefix))
  meant c r (Applied e at prefix arguments) =
      applied_to c (trees arguments)
      (meant_parts c (argument_slots c.tables (application c (meant c AsName prefix)) (trees arguments)) arguments)
      (application c (meant c AsName prefix))
  meant c r (Attribute e at name prefix arguments) =
      attribute_of c (meant_parts c (gift_slots (given_by c name arguments (meant c AsName prefix)) (count_of arguments)) arguments)
      (given_by c name arguments (meant c AsName prefix))
  meant c r (Qualified e at mark value) = qualified c (meant c AsName mark) (meant c (expected_of (meant c AsName mark)) value)
  meant c r (Argument e at value) = meant c (as_reading r) value
  meant c r (NamedArgument e at formal value) = meant c (as_reading r) value
  meant c r (Parenthesized e at inner) = meant_within (meant c (as_reading r) inner)
  meant c r (Unary e at operator operand) =
      unary_entity (meant c Free operand) (unary_of (sight_at c) operator (type_in (meant c Free operand)))
  meant c r (Binary e at operator place left right) =
      if is_turned operator left right
      then binary c operator (meant c (expecting (type_in (meant c Free right))) left) (meant c Free right)
      else binary c operator (meant c Free left) (meant c (right_reading operator (type_in (meant c Free left))) right)
  meant c r (InRange e at is_not value low high) =
      in_range c (meant c (tested_reading (is_aggregate value)) value) (meant c Free low) (meant c Free high)
  meant c r (InMark e at is_not value mark) =
      unary_entity (meant c (tested_reading (is_aggregate value)) value)
      (in_mark_of (sight_at c) (type_in (meant c (tested_reading (is_aggregate value)) value)) (mark_of c mark))
  meant c r (Conditional e at condition rest) =
      conditional (branches c (as_reading r) (with_condition no_branches (meant c Free condition)) rest)
  meant c r (Positional e at has_others first rest) = aggregate c r
  meant c r (Named e at first rest) = aggregate c r
  meant c r _ = Nothing

  -- each part as it is read in its slot
  pub meant_parts : Context → List Slot → Exprs → List Entity
  meant_parts c slots End = []
  meant_parts c slots (Then t ts) = meant c (slot_reading (slot_at slots) t) t ∷ meant_parts c (slots_behind slots) ts

  pub branches : Context → Reading → Branches → Exprs → Branches
  branches c r s End = s
  branches c r s (Then t ts) =
      branches c r (with_branch c s (ends ts) (meant c (slot_reading (branch_slot r s (ends ts)) t) t)) ts

-- the type of an expression that is read so
abbrev pub type_of : Context → Reading → Expr → Option ExprType
type_of c r t = type_in (meant c r t)
