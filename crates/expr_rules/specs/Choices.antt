-- Choices of cases and of array aggregates, by what their values stand for.
use Rattle.std.specs.Prelude.{if◌then◌else◌, ◌&&◌, ◌++◌, Bool, true, false, not, List, ℤ, Option, Some, None, []}
use Rattle.ada_forms.specs.Forms.{Expr}
use Rattle.ada_forms.specs.declared.attributes.Property.TheVariants as properties
use Rattle.choice_covers.specs.Covers.{between}
use Rattle.choice_covers.specs.declared.choices.Covering.{Covering}
use Rattle.choice_covers.specs.declared.choices.Covering.TheVariants.{From, Unclear}
use Rattle.value_rules.specs.Statics.{static_value, unstatic_found}
use Rattle.name_findings.specs.Findings.{Finding, refuse_silent}
use Rattle.seen_names.specs.Contexts.{Context, sight_at}
use Rattle.expr_outlines.specs.Outlines.{is_plain_name}
use Rattle.part_slots.specs.declared.readings.Reading.{Reading}
use Rattle.part_slots.specs.declared.readings.Reading.TheVariants.{AsName, Free}
use Rattle.seen_names.specs.Entities.{as_value, sure_in, type_in}
use Rattle.value_rules.specs.Names.{bearer_taken}
use Rattle.seen_names.specs.declared.entities.Entity.{Entity}
use Rattle.seen_names.specs.declared.entities.Entity.TheVariants.{Mark}
use Rattle.seen_types.specs.Types.{bounds, is_same, maybe_of, misfits}
use Rattle.spark_base.specs.declared.numbers.Pos.{Pos}
use Rattle.spark_base.specs.declared.numbers.TypeNo.{TypeNo}
use Rattle.spark_messages.specs.declared.messages.Code.TheVariants as codes
use Rattle.static_eval.specs.declared.judgements.Judgement.{Judgement}
use Rattle.static_meanings.specs.declared.meanings.Range.{Range}

-- a name of words and points that denotes a type is a mark; else it is a value
abbrev pub is_mark : Entity → Bool
is_mark (Mark t) = true
is_mark _ = false

-- Y04 and Y02 of a choice that is a value; one that does not fit need not be static

abbrev pub is_typed : Option TypeNo → Bool
is_typed None = false
is_typed (Some t) = true

abbrev pub does_not_fit : Context → Option TypeNo → Entity → Bool
does_not_fit c of a = misfits (sight_at c) (type_in a) (maybe_of of)

abbrev pub chosen_found : Context → Option TypeNo → Pos → Entity → Judgement → List Finding
chosen_found c of at a j =
    if does_not_fit c of a then refuse_silent true codes.Y04 at else if is_typed of then unstatic_found at (sure_in a) j else []

-- Y04 of one that is a mark

abbrev pub is_other_type : Context → Option TypeNo → Entity → Bool
is_other_type c (Some of) (Mark (Some t)) = not (is_same c.tables.types t of)
is_other_type c of a = false

abbrev pub marked_found : Context → Option TypeNo → Pos → Entity → List Finding
marked_found c of at a = refuse_silent (is_other_type c of a) codes.Y04 at

-- What a choice covers

abbrev pub of_range : Option Range → Covering
of_range None = Unclear
of_range (Some range) = From range.low range.high

abbrev pub of_mark : Context → TypeNo → Entity → Covering
of_mark c of (Mark (Some t)) = if is_same c.tables.types t of then of_range (bounds (sight_at c) t) else Unclear
of_mark c of a = Unclear

abbrev pub fitting_value : Context → TypeNo → Entity → Judgement → Option ℤ
fitting_value c of a j = if does_not_fit c (Some of) a then None else static_value (sure_in a) j

-- The value of a choice: a name of words and points is read as a name, and taken as a value if it is no mark

abbrev pub choice_reading : Expr → Reading
choice_reading value = if is_plain_name value then AsName else Free

abbrev pub choice_taken : Context → Expr → Entity → List Finding
choice_taken c value a = if is_plain_name value then bearer_taken c properties.First value a else []

abbrev pub is_mark_choice : Expr → Entity → Bool
is_mark_choice value a = is_plain_name value && is_mark a

abbrev pub as_choice : Context → Expr → Entity → Entity
as_choice c value a = if is_plain_name value then as_value c a else a

abbrev pub mark_or_value_found : Context → Option TypeNo → Expr → Pos → Entity → Judgement → List Finding
mark_or_value_found c of value at a j =
    if is_mark_choice value a then marked_found c of at a else chosen_found c of at (as_choice c value a) j

-- what it breaks, by what the value stands for that is read so
abbrev pub value_choice_found : Context → Option TypeNo → Expr → Pos → Entity → Judgement → List Finding
value_choice_found c of value at a j = choice_taken c value a ++ mark_or_value_found c of value at a j

abbrev pub one_value : Option ℤ → Covering
one_value n = between n n

-- what it covers
abbrev pub value_covering : Context → TypeNo → Expr → Entity → Judgement → Covering
value_covering c of value a j = if is_mark_choice value a then of_mark c of a else one_value (fitting_value c of (as_choice c value a) j)
