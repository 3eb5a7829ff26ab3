-- What the parts of an expression break in their slots.
use Rattle.std.specs.Prelude.{if◌then◌else◌, ◌++◌, Bool, true, List, Option, []}
use Rattle.std.specs.List.{list_any}
use Rattle.ada_forms.specs.Forms.{Expr}
use Rattle.expr_outlines.specs.Outlines.{begins, ending, first_token, is_name, passed}
use Rattle.name_findings.specs.Findings.{Finding, refuse, refuse_silent}
use Rattle.part_slots.specs.declared.slots.Slot.{Slot}
use Rattle.part_slots.specs.declared.slots.Slot.TheVariants as slots
use Rattle.seen_names.specs.Contexts.{Context, sight_at}
use Rattle.seen_names.specs.Entities.{type_in}
use Rattle.seen_names.specs.declared.entities.Entity.{Entity}
use Rattle.seen_types.specs.Types.{maybe_of, misfits}
use Rattle.spark_base.specs.declared.numbers.TypeNo.{TypeNo}
use Rattle.spark_messages.specs.declared.messages.Code.TheVariants as codes
use Rattle.value_rules.specs.Standings.{is_no_branch, is_no_condition, is_no_number, is_unfit_for, unfit_found, written_found}

-- N06 of what is written: at what is no name, its first token
abbrev pub target_found : Bool → Expr → Entity → List Finding
target_found in_function t a =
    if is_name (passed t) then written_found in_function (ending t) a else refuse codes.N06 (begins t) (first_token t)

-- what an `out` formal of this type is given
abbrev pub out_found : Context → Option TypeNo → Expr → Entity → List Finding
out_found c of t a =
    target_found c.place.in_function t a ++ refuse_silent (misfits (sight_at c) (type_in a) (maybe_of of)) codes.Y04 (begins t)

-- of the tree of a part, what it stands for; of a choice nothing is said here
abbrev pub slot_found : Context → Slot → Expr → Entity → List Finding
slot_found c (slots.Given of) t a = unfit_found c of (begins t) (type_in a)
slot_found c (slots.Target of) t a = out_found c of t a
slot_found c slots.Surplus t a = refuse_silent true codes.Y09 (begins t)
slot_found c (slots.Shared of) t a = refuse_silent (list_any (is_unfit_for c (type_in a)) of) codes.Y04 (begins t)
slot_found c slots.Condition t a = refuse_silent (is_no_condition c (type_in a)) codes.Y04 (begins t)
slot_found c (slots.Branch r before) t a = refuse_silent (is_no_branch c before (type_in a)) codes.Y04 (begins t)
slot_found c slots.Whole t a = refuse_silent (is_no_number c (type_in a)) codes.Y04 (begins t)
slot_found c slot t a = []
