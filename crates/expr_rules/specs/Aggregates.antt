-- What aggregates of records and of arrays break.
use Rattle.std.specs.Prelude.{◌+◌, ◌&&◌, if◌then◌else◌, ◌∷◌, ◌++◌, ◌-ℤ◌, ◌-◌, take, ℕ, Bool, true, false, not, nat_lt, List, length, ℤ, pos, int_lt, Option, Some, None, []}
use Rattle.ada_forms.specs.Forms.{Expr}
use Rattle.choice_covers.specs.Covers.{coverage_found, outside_found}
use Rattle.choice_covers.specs.declared.choices.Bounds.{Bounds}
use Rattle.choice_covers.specs.declared.choices.Placed.{Placed}
use Rattle.expr_outlines.specs.Outlines.{begins, choices_of}
use Rattle.name_findings.specs.Findings.{Finding, refuse_silent}
use Rattle.part_slots.specs.Calls.{is_taken}
use Rattle.part_slots.specs.Records.{Taken, are_missing, is_others, nothing_taken, place_chosen, taken_by, with_component}
use Rattle.part_slots.specs.declared.readings.Reading.{Reading}
use Rattle.part_slots.specs.declared.readings.Reading.TheVariants.{Hidden, Wanted}
use Rattle.seen_names.specs.Contexts.{Context, sight_at}
use Rattle.seen_names.specs.declared.context.Tables.{Tables}
use Rattle.seen_types.specs.Types.{bounds, shape}
use Rattle.seen_types.specs.declared.seen.ExprType.TheVariants as types
use Rattle.seen_types.specs.declared.seen.FieldSeen.{FieldSeen}
use Rattle.seen_types.specs.declared.seen.Shape.{Shape}
use Rattle.seen_types.specs.declared.seen.Shape.TheVariants as shapes
use Rattle.spark_base.specs.declared.numbers.Pos.{Pos}
use Rattle.spark_messages.specs.declared.messages.Code.TheVariants as codes
use Rattle.static_meanings.specs.declared.meanings.Range.{Range}

-- what is expected of an aggregate
abbrev pub wanted_shape : Context → Reading → Option Shape
wanted_shape c (Wanted (types.Of t)) = shape (sight_at c) t
wanted_shape c r = None

-- Y04: nothing with components is expected; where what is expected is not known, nothing is refused
abbrev pub is_unexpected : Reading → Option Shape → Bool
is_unexpected Hidden s = false
is_unexpected r (Some (shapes.Fields fields)) = false
is_unexpected r (Some (shapes.Array index of)) = false
is_unexpected r s = true

-- Values by their places, by where each begins

-- the last value of a range, from 0
abbrev pub last_in : Range → ℤ
last_in range = range.high -ℤ range.low

-- elements too many: those behind as many as the index has values
abbrev pub surplus_found : Range → ℕ → List Pos → List Finding
surplus_found range k [] = []
surplus_found range k (at ∷ rest) = refuse_silent (int_lt (last_in range) (pos k)) codes.Y09 at ++ surplus_found range (k + 1) rest

-- those without the last, which may be that of `others`
abbrev pub own_starts : Bool → List Pos → List Pos
own_starts has_others starts = if has_others then take (length starts - 1) starts else starts

abbrev pub are_too_few : Bool → ℕ → Range → Bool
are_too_few has_others count range = not has_others && not (int_lt (last_in range) (pos count))

abbrev pub elements_found : Pos → Bool → List Pos → Option Range → List Finding
elements_found at has_others starts None = []
elements_found at has_others starts (Some range) =
    surplus_found range 0 (own_starts has_others starts)
    ++ refuse_silent (are_too_few has_others (length starts) range) codes.Y09 at

-- Y09 of an aggregate without names
abbrev pub positional_found : Context → Pos → Bool → List Pos → Option Shape → List Finding
positional_found c at has_others starts (Some (shapes.Fields fields)) =
    refuse_silent (not has_others && nat_lt (length starts) (length fields)) codes.Y09 at
positional_found c at has_others starts (Some (shapes.Array index of)) = elements_found at has_others starts (bounds (sight_at c) index)
positional_found c at has_others starts s = []

-- Associations of components

-- a list without its last
abbrev pub all_but_last : {A : Type 0} → A → List A → List A
all_but_last first [] = []
all_but_last first (next ∷ rest) = first ∷ all_but_last next rest

abbrev pub place_found : Pos → Taken → Option ℕ → List Finding
place_found at s None = refuse_silent true codes.Y06 at
place_found at s (Some n) = refuse_silent (is_taken s.places n) codes.Y09 at

-- a choice behind others, of no component, or of one that has its value
abbrev pub component_found : Tables → List (ℕ × FieldSeen) → Taken → Expr → List Finding
component_found tables fields s t =
    if s.is_closed then refuse_silent true codes.Y09 (begins t) else
    if is_others t then [] else place_found (begins t) s (place_chosen tables fields t)

abbrev pub components_found : Tables → List (ℕ × FieldSeen) → Taken → List Expr → List Finding
components_found tables fields s [] = []
components_found tables fields s (t ∷ ts) =
    component_found tables fields s t ++ components_found tables fields (with_component tables fields s t) ts

-- those of each association in turn, and components that have no value behind the last
abbrev pub associations_found : Tables → List (ℕ × FieldSeen) → Pos → Taken → List Expr → List Finding
associations_found tables fields at s [] = refuse_silent (are_missing fields s) codes.Y09 at
associations_found tables fields at s (t ∷ ts) =
    components_found tables fields s (choices_of t)
    ++ associations_found tables fields at (taken_by tables fields s (choices_of t)) ts

-- Associations of elements

abbrev pub to_cover : Range → Bounds
to_cover range = record { low = range.low; high = range.high }

abbrev pub choices_found : Pos → List Placed → Option Range → List Finding
choices_found at choices None = []
choices_found at choices (Some range) =
    coverage_found codes.Y09 at (to_cover range) choices ++ outside_found (to_cover range) choices

-- Y09 and Y06 of an aggregate with names, by its associations and what their choices cover
abbrev pub named_found : Context → Pos → List Expr → List Placed → Option Shape → List Finding
named_found c at pairs choices (Some (shapes.Fields fields)) = associations_found c.tables fields at nothing_taken pairs
named_found c at pairs choices (Some (shapes.Array index of)) = choices_found at choices (bounds (sight_at c) index)
named_found c at pairs choices s = []
