-- How the parts of an expression are read that stand in one list.
use Rattle.std.specs.Prelude.{if◌then◌else◌, List, [], ◌∷◌}
use Rattle.spark_base.specs.declared.numbers.TypeNo.{TypeNo}
use Rattle.ada_forms.specs.Forms.{Expr}
use Rattle.expr_outlines.specs.Outlines.{is_aggregate, is_name, passed}
use Rattle.part_slots.specs.declared.readings.Reading.{Reading}
use Rattle.part_slots.specs.declared.readings.Reading.TheVariants as readings
use Rattle.part_slots.specs.declared.slots.Slot.{Slot}
use Rattle.part_slots.specs.declared.slots.Slot.TheVariants as slots
use Rattle.part_slots.specs.Readings.{expecting, tested_reading}
use Rattle.seen_types.specs.declared.seen.ExprType.TheVariants as types

-- one value for several components is read for the first of them
abbrev pub first_wanted : List TypeNo → Reading
first_wanted [] = readings.Hidden
first_wanted (t ∷ ts) = readings.Wanted (types.Of t)

-- a target is a name; in place of one that is none nothing is expected
abbrev pub target_reading : Expr → Reading
target_reading t = if is_name (passed t) then readings.Free else readings.Hidden

abbrev pub slot_reading : Slot → Expr → Reading
slot_reading slots.Alone t = readings.Hidden
slot_reading slots.Plain t = tested_reading (is_aggregate t)
slot_reading (slots.Given of) t = expecting of
slot_reading (slots.Target of) t = target_reading t
slot_reading slots.Surplus t = readings.Hidden
slot_reading (slots.Shared of) t = first_wanted of
slot_reading slots.Condition t = readings.Free
slot_reading (slots.Branch r before) t = r
slot_reading slots.Whole t = readings.Free
slot_reading (slots.Choice of) t = readings.Free

-- of slots for the parts of a list: those for which none is left stand alone

abbrev pub slot_at : List Slot → Slot
slot_at [] = slots.Alone
slot_at (s ∷ ss) = s

abbrev pub slots_behind : List Slot → List Slot
slots_behind [] = []
slots_behind (s ∷ ss) = ss
