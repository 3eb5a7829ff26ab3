-- The arguments of calls, conversions, indexes and attributes.
use Rattle.std.specs.Prelude.{ℕ, ◌+◌, Bool, true, false, not, ◌&&◌, ◌||◌, if◌then◌else◌, nat_eq, nat_lt, List, [], ◌∷◌, ◌++◌, length, position, replicate, slice_get, is_none, is_some, ℤ, Option, Some, None}
use Rattle.std.specs.List.{list_any}
use Rattle.std.specs.Map.{keys_of}
use Rattle.spark_base.specs.declared.name.Name.{Name}
use Rattle.ada_forms.specs.Forms.{Expr, Argument, NamedArgument}
use Rattle.expr_outlines.specs.Outlines.{formal_name, is_aggregate, is_named_argument, name_of, only_argument}
use Rattle.part_slots.specs.declared.slots.Slot.{Slot}
use Rattle.part_slots.specs.declared.slots.Slot.TheVariants as slots
use Rattle.seen_types.specs.declared.seen.ExprType.TheVariants as types
use Rattle.seen_types.specs.Types.{integer, maybe_of}
use Rattle.seen_names.specs.declared.applications.Application.{Application}
use Rattle.seen_names.specs.declared.applications.Application.TheVariants as applications
use Rattle.seen_names.specs.declared.attributes.Gift.{Gift}
use Rattle.seen_names.specs.declared.attributes.Gift.TheVariants as gifts
use Rattle.seen_names.specs.declared.context.Tables.{Tables}
use Rattle.seen_names.specs.declared.shown.Callable.{Callable}
use Rattle.seen_names.specs.declared.shown.FormalSeen.{FormalSeen}
use Rattle.seen_names.specs.Applications.{is_unit_name}
use Rattle.seen_names.specs.Contexts.{key_of}

-- The formals that actuals are for

abbrev pub place_by : {T : Type 0} → List (ℕ × T) → Option ℕ → Option ℕ
place_by rows None = None
place_by rows (Some key) = position (nat_eq key) (keys_of rows)

abbrev pub place_named : Tables → List (ℕ × FormalSeen) → Option Name → Option ℕ
place_named tables formals None = None
place_named tables formals (Some name) = place_by formals (key_of tables name)

-- an actual without a name is for the formal of its own place, whatever stands before it
abbrev pub place_of : Tables → List (ℕ × FormalSeen) → ℕ → Expr → Option ℕ
place_of tables formals k a =
    if is_named_argument a then place_named tables formals (formal_name a) else if nat_lt k (length formals) then Some k else None

abbrev pub is_taken : List ℕ → ℕ → Bool
is_taken taken n = list_any (nat_eq n) taken

abbrev pub unless_taken : List ℕ → Option ℕ → Option ℕ
unless_taken taken None = None
unless_taken taken (Some n) = if is_taken taken n then None else Some n

-- the formal of an actual: none where there is none, or it has its actual
abbrev pub formal_for : Tables → List (ℕ × FormalSeen) → ℕ → List ℕ → Expr → Option ℕ
formal_for tables formals k taken a = unless_taken taken (place_of tables formals k a)

abbrev pub or_taken : List ℕ → ℕ → List ℕ
or_taken taken n = if is_taken taken n then taken else taken ++ n ∷ []

abbrev pub with_taken : List ℕ → Option ℕ → List ℕ
with_taken taken None = taken
with_taken taken (Some n) = or_taken taken n

abbrev pub taken_behind : Tables → List (ℕ × FormalSeen) → ℕ → List ℕ → Expr → List ℕ
taken_behind tables formals k taken a = with_taken taken (formal_for tables formals k taken a)

abbrev pub formal_slot : FormalSeen → Slot
formal_slot f = if f.is_written then slots.Target f.of else slots.Given (maybe_of f.of)

abbrev pub slot_seen : Option (ℕ × FormalSeen) → Slot
slot_seen None = slots.Alone
slot_seen (Some f) = formal_slot f.1

abbrev pub slot_for : List (ℕ × FormalSeen) → Option ℕ → Slot
slot_for formals None = slots.Alone
slot_for formals (Some n) = slot_seen (slice_get formals n)

-- the slots of actuals from the one at this place on, where those before took formals
abbrev pub actual_slots : Tables → List (ℕ × FormalSeen) → ℕ → List ℕ → List Expr → List Slot
actual_slots tables formals k taken [] = []
actual_slots tables formals k taken (a ∷ rest) =
    slot_for formals (formal_for tables formals k taken a)
    ∷ actual_slots tables formals (k + 1) (taken_behind tables formals k taken a) rest

-- N08: one behind named ones without a name, one that has no formal of its own, or one missing

abbrev pub has_stray : Tables → List (ℕ × FormalSeen) → ℕ → List ℕ → List Expr → Bool
has_stray tables formals k taken [] = not (nat_eq (length taken) (length formals))
has_stray tables formals k taken (a ∷ rest) =
    is_none (formal_for tables formals k taken a) || has_stray tables formals (k + 1) (taken_behind tables formals k taken a) rest

abbrev pub is_disordered : Bool → List Expr → Bool
is_disordered is_behind_named [] = false
is_disordered is_behind_named (a ∷ rest) =
    (is_behind_named && not (is_named_argument a)) || is_disordered (is_behind_named || is_named_argument a) rest

abbrev pub are_wrong : Tables → List (ℕ × FormalSeen) → List Expr → Bool
are_wrong tables formals arguments = is_disordered false arguments || has_stray tables formals 0 [] arguments

-- What stands in parentheses behind a prefix

abbrev pub is_unit_named : ℤ → Option Name → Bool
is_unit_named factor None = false
is_unit_named factor (Some name) = is_unit_name factor name.written

abbrev pub is_unit : ℤ → Expr → Bool
is_unit factor t = is_unit_named factor (name_of t)

-- one argument, without a name or by that of the formal
abbrev pub is_one_unit : ℤ → List Expr → Bool
is_one_unit factor (Argument e at value ∷ []) = true
is_one_unit factor (NamedArgument e at formal value ∷ []) = is_unit factor formal
is_one_unit factor _ = false

abbrev pub if_only : List Expr → Slot → List Slot
if_only arguments slot = if is_some (only_argument arguments) then slot ∷ [] else []

abbrev pub slots_for : Tables → Option Callable → List Expr → List Slot
slots_for tables None arguments = []
slots_for tables (Some f) arguments = actual_slots tables f.formals 0 [] arguments

unfoldable pub argument_slots : Tables → Application → List Expr → List Slot
argument_slots tables (applications.Conversion t) arguments = if_only arguments slots.Plain
argument_slots tables (applications.Call m is_behind n) arguments = slots_for tables (slice_get tables.callables n) arguments
argument_slots tables (applications.ProductCall m factor) arguments =
    if is_one_unit factor arguments then slots.Given (maybe_of (Some integer)) ∷ [] else []
argument_slots tables (applications.Index v index of) arguments = if_only arguments (slots.Given (maybe_of (Some index)))
argument_slots tables _ arguments = []

abbrev pub are_wrong_for : Tables → Option Callable → List Expr → Bool
are_wrong_for tables None arguments = false
are_wrong_for tables (Some f) arguments = are_wrong tables f.formals arguments

-- N08: the arguments are not those that are asked for
unfoldable pub are_unfit : Tables → Application → List Expr → Bool
are_unfit tables (applications.Conversion t) arguments = not (is_some (only_argument arguments))
are_unfit tables (applications.Call m is_behind n) arguments = are_wrong_for tables (slice_get tables.callables n) arguments
are_unfit tables (applications.ClockCall m) arguments = true
are_unfit tables (applications.ProductCall m factor) arguments = not (is_one_unit factor arguments)
are_unfit tables (applications.Index v index of) arguments = not (is_some (only_argument arguments))
are_unfit tables _ arguments = false

-- one argument, without a name and no aggregate

abbrev pub is_plain_value : Option Expr → Bool
is_plain_value None = false
is_plain_value (Some value) = not (is_aggregate value)

abbrev pub has_value : List Expr → Bool
has_value arguments = is_plain_value (only_argument arguments)

-- Attributes

-- of so many arguments
unfoldable pub gift_slots : Gift → ℕ → List Slot
gift_slots (gifts.OfValues t of) count = replicate count (slots.Given (Some (types.Of t)))
gift_slots (gifts.OfPosition of) count = replicate count slots.Whole
gift_slots _ count = []
