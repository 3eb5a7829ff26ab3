-- The predefined names, and the table of the predefined types.
use Rattle.std.specs.Prelude.{ℕ, List, [], ◌∷◌, Option, Some, None, ℤ, pos, negsuc, map, refl, if◌then◌else◌, codes}
use Rattle.std.specs.Char.{to_ascii_lowercase}
use Rattle.spark_base.specs.declared.name.Name.{Name}
use Rattle.spark_base.specs.declared.numbers.TypeNo.{TypeNo}
use Rattle.ada_tree.specs.Words.{is_written}
use Rattle.static_meanings.specs.Meanings.{type_at}
use Rattle.types_objects.specs.declared.predefined.Predefined.{Predefined}
use Rattle.types_objects.specs.declared.predefined.Predefined.TheVariants as names
use Rattle.types_objects.specs.declared.types.TypeDef.{TypeDef}
use Rattle.types_objects.specs.declared.types.TypeForm.{TypeForm}
use Rattle.types_objects.specs.declared.types.TypeForm.TheVariants as forms
use Rattle.types_objects.specs.declared.types.Types.{Types}

-- Names

abbrev pub type_of : ℕ → Option Predefined
type_of n = Some (names.Type (type_at n))

abbrev pub constant : ℕ → ℤ → Option Predefined
constant n value = Some (names.Constant (type_at n) value)

abbrev pub scale : ℤ → Option Predefined
scale nanoseconds = Some (names.Scale nanoseconds)

unfoldable pub standard_name : List ℕ → Option Predefined
standard_name text =
    if is_written text (codes "boolean") then type_of 0 else
    if is_written text (codes "integer") then type_of 1 else
    if is_written text (codes "natural") then type_of 2 else
    if is_written text (codes "positive") then type_of 3 else
    if is_written text (codes "false") then constant 0 (pos 0) else
    if is_written text (codes "true") then constant 0 (pos 1) else None

unfoldable pub real_time_name : List ℕ → Option Predefined
real_time_name text =
    if is_written text (codes "time") then type_of 4 else
    if is_written text (codes "time_span") then type_of 5 else
    if is_written text (codes "time_span_zero") then constant 5 (pos 0) else
    if is_written text (codes "nanoseconds") then scale (pos 1) else
    if is_written text (codes "microseconds") then scale (pos 1000) else
    if is_written text (codes "milliseconds") then scale (pos 1000000) else
    if is_written text (codes "seconds") then scale (pos 1000000000) else
    if is_written text (codes "minutes") then scale (pos 60000000000) else
    if is_written text (codes "clock") then Some names.Clock else
    if is_written text (codes "clock_time") then Some names.ClockTime else None

abbrev pub or_else : Option Predefined → Option Predefined → Option Predefined
or_else None other = other
or_else (Some what) other = Some what

abbrev pub predefined_name : List ℕ → Option Predefined
predefined_name text = or_else (standard_name text) (real_time_name text)

-- Types

abbrev pub named : List ℕ → Name
named text = record { key = map to_ascii_lowercase text; written = text; lower = refl }

abbrev pub scalar : List ℕ → TypeForm → TypeDef
scalar name form = record { name = named name; decl = None; form = form; leaves = 1 }

abbrev pub whole : List ℕ → ℤ → TypeDef
whole name low = scalar name (forms.Signed low (pos 2147483647))

abbrev pub boolean : TypeDef
boolean = scalar (codes "Boolean") (forms.Enumeration (named (codes "False") ∷ named (codes "True") ∷ []))

abbrev pub defs : List TypeDef
defs =
    boolean ∷ whole (codes "Integer") (negsuc 2147483647) ∷ whole (codes "Natural") (pos 0) ∷ whole (codes "Positive") (pos 1)
    ∷ scalar (codes "Time") forms.Moment ∷ scalar (codes "Time_Span") forms.Duration ∷ []

abbrev pub firsts : List TypeNo
firsts = type_at 0 ∷ type_at 1 ∷ type_at 1 ∷ type_at 1 ∷ type_at 4 ∷ type_at 5 ∷ []

-- before all declarations
abbrev pub opening : Types
opening = record { list = defs; first = firsts; numbers = [] }
