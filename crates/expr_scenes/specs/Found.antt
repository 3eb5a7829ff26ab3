-- What is found at an expression in a context.
use Rattle.std.specs.Prelude.{◌+◌, if◌then◌else◌, ◌∷◌, ◌++◌, List, [], map, Option, Some}
use Rattle.ada_forms.specs.AttributeWords.{property_of}
use Rattle.ada_forms.specs.Forms.{Applied, Argument, Association, Attribute, Binary, Conditional, End, Expr, Exprs, Identifier, InMark, InRange, Named, NamedArgument, Number, Parenthesized, Positional, Qualified, RangeAttribute, RangeChoice, Selected, Then, Unary, ValueChoice}
use Rattle.ada_forms.specs.declared.attributes.Property.TheVariants as properties
use Rattle.expr_rules.specs.Aggregates.{is_unexpected, named_found, positional_found, wanted_shape}
use Rattle.expr_scenes.specs.Choices.{all_placed, bound_found, name_or_value_found}
use Rattle.expr_scenes.specs.Statics.{said, said_all}
use Rattle.expr_scenes.specs.Typing.{meant, meant_parts, type_of}
use Rattle.expr_outlines.specs.Outlines.{begins, count_of, ending, ends, is_aggregate, trees}
use Rattle.expr_rules.specs.Arguments.{given_by}
use Rattle.expr_rules.specs.Choices.{choice_reading}
use Rattle.expr_rules.specs.Names.{read_found}
use Rattle.expr_rules.specs.Operands.{branch_slot, is_turned, right_reading}
use Rattle.expr_rules.specs.Parts.{slot_found}
use Rattle.value_rules.specs.Applications.{application_found, only_entity, product_faults}
use Rattle.value_rules.specs.Attributes.{gift_found, range_found}
use Rattle.value_rules.specs.Branches.{no_branches, with_branch, with_condition}
use Rattle.value_rules.specs.Names.{bearer_taken, named_entity, prefix_taken, selected_entity, selection_found}
use Rattle.value_rules.specs.Operators.{binary_found, in_range_found, unary_found}
use Rattle.value_rules.specs.Standings.{unfit_found}
use Rattle.value_rules.specs.Statics.{attribute_faults, number_faults}
use Rattle.value_rules.specs.Tellings.{has_type}
use Rattle.value_rules.specs.declared.branches.Branches.{Branches}
use Rattle.name_findings.specs.Findings.{Finding, refuse_silent}
use Rattle.name_marks.specs.Marks.{mark_found, mark_of}
use Rattle.value_rules.specs.Applications.{no_mark_found}
use Rattle.value_rules.specs.Names.{mark_type, name_found}
use Rattle.part_slots.specs.Calls.{are_unfit, argument_slots, gift_slots, has_value}
use Rattle.part_slots.specs.Readings.{as_reading, expecting, tested_reading}
use Rattle.part_slots.specs.Records.{pairing_at, pairings_behind, pairings_for, positional_slots, value_slot}
use Rattle.part_slots.specs.Slots.{slot_at, slot_reading, slots_behind}
use Rattle.part_slots.specs.declared.readings.Reading.{Reading}
use Rattle.part_slots.specs.declared.readings.Reading.TheVariants.{AsName, Free, Wanted}
use Rattle.part_slots.specs.declared.slots.Pairing.{Pairing}
use Rattle.part_slots.specs.declared.slots.Pairing.TheVariants.{ForElements}
use Rattle.part_slots.specs.declared.slots.Slot.{Slot}
use Rattle.part_slots.specs.declared.slots.Slot.TheVariants as slots
use Rattle.seen_names.specs.Applications.{application}
use Rattle.seen_names.specs.Contexts.{Context, sight_at, visible}
use Rattle.seen_names.specs.Entities.{selection, sure_in}
use Rattle.seen_types.specs.Types.{misfits}
use Rattle.seen_types.specs.declared.seen.ExprType.TheVariants as types
use Rattle.spark_base.specs.declared.numbers.TypeNo.{TypeNo}
use Rattle.spark_messages.specs.declared.messages.Code.TheVariants as codes

-- what is found in a part, and what it breaks in its slot
abbrev pub part_found : Context → Slot → Expr → List Finding → List Finding
part_found c slot t all = all ++ slot_found c slot t (meant c (slot_reading slot t) t)

abbrev mutual
  -- all that is found, where the expression is read so
  pub found : Context → Reading → Expr → List Finding
  found c r (Number e at n) = number_faults at n
  found c r (Identifier e at name) = name_found e at (visible c.tables name) ++ read_found c r e at (named_entity c e at name)
  found c r (Selected e at name prefix) =
      found c AsName prefix
      ++ (prefix_taken c prefix (meant c AsName prefix)
      ++ (selection_found e at (selection c name (meant c AsName prefix))
      ++ read_found c r e at (selected_entity c e at name (meant c AsName prefix))))
  found c r (Applied e at prefix arguments) =
      found c AsName prefix
      ++ (parts_found c (argument_slots c.tables (application c (meant c AsName prefix)) (trees arguments)) arguments
      ++ (application_found c (ending prefix) (begins prefix)
      (are_unfit c.tables (application c (meant c AsName prefix)) (trees arguments)) (has_value (trees arguments))
      (only_entity (meant_parts c (argument_slots c.tables (application c (meant c AsName prefix)) (trees arguments)) arguments))
      (application c (meant c AsName prefix))
      ++ (product_faults at (sure_in (meant c r (Applied e at prefix arguments))) (said c prefix ∷ said_all c arguments)
      (application c (meant c AsName prefix))
      ++ has_type e (type_of c r (Applied e at prefix arguments)))))
  found c r (Attribute e at name prefix arguments) =
      found c AsName prefix
      ++ (bearer_taken c (property_of name.written) prefix (meant c AsName prefix)
      ++ (parts_found c (gift_slots (given_by c name arguments (meant c AsName prefix)) (count_of arguments)) arguments
      ++ (gift_found (begins prefix) at e (given_by c name arguments (meant c AsName prefix))
      ++ (attribute_faults at (sure_in (meant c r (Attribute e at name prefix arguments))) (property_of name.written)
      (said c prefix ∷ said_all c arguments)
      ++ has_type e (type_of c r (Attribute e at name prefix arguments))))))
  found c r (RangeAttribute e at prefix arguments) =
      found c AsName prefix
      ++ (bearer_taken c properties.First prefix (meant c AsName prefix)
      ++ (parts_found c [] arguments ++ range_found c at (meant c AsName prefix)))
  found c r (Qualified e at mark value) =
      found c AsName mark
      ++ (no_mark_found (ending mark) (meant c AsName mark)
      ++ (found c (expecting (mark_type (meant c AsName mark))) value
      ++ (unfit_found c (mark_type (meant c AsName mark)) (begins value) (type_of c (expecting (mark_type (meant c AsName mark))) value)
      ++ has_type e (type_of c r (Qualified e at mark value)))))
  found c r (Argument e at value) = found c (as_reading r) value
  found c r (NamedArgument e at formal value) = found c (as_reading r) value
  found c r (Parenthesized e at inner) = found c (as_reading r) inner ++ has_type e (type_of c r (Parenthesized e at inner))
  found c r (Unary e at operator operand) =
      found c Free operand
      ++ (unary_found c operator at (meant c Free operand) (said c operand) ++ has_type e (type_of c r (Unary e at operator operand)))
  found c r (Binary e at operator place left right) =
      if is_turned operator left right
      then found c Free right
      ++ (found c (expecting (type_of c Free right)) left
      ++ (binary_found c operator place (begins left) (meant c (expecting (type_of c Free right)) left) (meant c Free right)
      (said c left) (said c right)
      ++ has_type e (type_of c r (Binary e at operator place left right))))
      else found c Free left
      ++ (found c (right_reading operator (type_of c Free left)) right
      ++ (binary_found c operator place (begins left) (meant c Free left) (meant c (right_reading operator (type_of c Free left)) right)
      (said c left) (said c right)
      ++ has_type e (type_of c r (Binary e at operator place left right))))
  found c r (InRange e at is_not value low high) =
      found c (tested_reading (is_aggregate value)) value
      ++ (refuse_silent (is_aggregate value) codes.Y04 (begins value)
      ++ (found c Free low ++ (found c Free high
      ++ (in_range_found c (begins value) (type_of c (tested_reading (is_aggregate value)) value) (type_of c Free low) (type_of c Free high)
      ++ has_type e (type_of c r (InRange e at is_not value low high))))))
  found c r (InMark e at is_not value mark) =
      found c (tested_reading (is_aggregate value)) value
      ++ (refuse_silent (is_aggregate value) codes.Y04 (begins value)
      ++ (mark_found c mark
      ++ (refuse_silent (misfits (sight_at c) (type_of c (tested_reading (is_aggregate value)) value) (mark_of c mark))
      codes.Y04 (begins value)
      ++ has_type e (type_of c r (InMark e at is_not value mark)))))
  found c r (Conditional e at condition rest) =
      part_found c slots.Condition condition (found c Free condition)
      ++ (branches_found c (as_reading r) (with_condition no_branches (meant c Free condition)) rest
      ++ has_type e (type_of c r (Conditional e at condition rest)))
  found c r (Positional e at has_others first rest) =
      refuse_silent (is_unexpected r (wanted_shape c r)) codes.Y04 at
      ++ (part_found c (slot_at (positional_slots (wanted_shape c r) has_others (count_of rest + 1))) first
      (found c (slot_reading (slot_at (positional_slots (wanted_shape c r) has_others (count_of rest + 1))) first) first)
      ++ (parts_found c (slots_behind (positional_slots (wanted_shape c r) has_others (count_of rest + 1))) rest
      ++ (positional_found c at has_others (map begins (first ∷ trees rest)) (wanted_shape c r)
      ++ has_type e (type_of c r (Positional e at has_others first rest)))))
  found c r (Named e at first rest) =
      refuse_silent (is_unexpected r (wanted_shape c r)) codes.Y04 at
      ++ (pair_found c (pairing_at (pairings_for c.tables (wanted_shape c r) (first ∷ trees rest))) first
      ++ (pairs_found c (pairings_behind (pairings_for c.tables (wanted_shape c r) (first ∷ trees rest))) rest
      ++ (named_found c at (first ∷ trees rest)
      (all_placed c (pairings_for c.tables (wanted_shape c r) (first ∷ trees rest)) (first ∷ trees rest)) (wanted_shape c r)
      ++ has_type e (type_of c r (Named e at first rest)))))
  found c r t = []

  -- each part as it is read in its slot
  pub parts_found : Context → List Slot → Exprs → List Finding
  parts_found c slots End = []
  parts_found c slots (Then t ts) =
      part_found c (slot_at slots) t (found c (slot_reading (slot_at slots) t) t) ++ parts_found c (slots_behind slots) ts

  -- conditions and values in turn
  pub branches_found : Context → Reading → Branches → Exprs → List Finding
  branches_found c r s End = []
  branches_found c r s (Then t ts) =
      part_found c (branch_slot r s (ends ts)) t (found c (slot_reading (branch_slot r s (ends ts)) t) t)
      ++ branches_found c r (with_branch c s (ends ts) (meant c (slot_reading (branch_slot r s (ends ts)) t) t)) ts

  -- a choice among the values of this type
  pub choice_found : Context → Option TypeNo → Expr → List Finding
  choice_found c of (ValueChoice e at value) = found c (choice_reading value) value ++ name_or_value_found c of value
  choice_found c of (RangeChoice e at low high) =
      found c Free low ++ (found c Free high ++ (bound_found c of low ++ bound_found c of high))
  choice_found c of t = []

  -- choices among the values of an index, and last an element
  pub elements_found : Context → TypeNo → TypeNo → Exprs → List Finding
  elements_found c index of End = []
  elements_found c index of (Then t ts) =
      (if ends ts then part_found c (slots.Given (Some (types.Of of))) t (found c (Wanted (types.Of of)) t)
      else choice_found c (Some index) t)
      ++ elements_found c index of ts

  -- an association: names of components are no expressions
  pub pair_found : Context → Pairing → Expr → List Finding
  pair_found c (ForElements index of) (Association e at first rest) =
      (if ends rest then part_found c (slots.Given (Some (types.Of of))) first (found c (Wanted (types.Of of)) first)
      else choice_found c (Some index) first)
      ++ elements_found c index of rest
  pair_found c p (Association e at first rest) = last_found c (value_slot p) rest
  pair_found c p t = []

  pub last_found : Context → Slot → Exprs → List Finding
  last_found c slot End = []
  last_found c slot (Then t End) = part_found c slot t (found c (slot_reading slot t) t)
  last_found c slot (Then t ts) = last_found c slot ts

  pub pairs_found : Context → List Pairing → Exprs → List Finding
  pairs_found c ps End = []
  pairs_found c ps (Then t ts) = pair_found c (pairing_at ps) t ++ pairs_found c (pairings_behind ps) ts
