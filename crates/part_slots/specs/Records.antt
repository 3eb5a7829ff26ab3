-- The values of aggregates.
use Rattle.std.specs.Prelude.{ℕ, zero, suc, ◌-◌, ◌+◌, Bool, true, false, ◌&&◌, if◌then◌else◌, nat_lt, List, [], ◌∷◌, ◌++◌, length, drop, map, replicate, slice_get, take, Option, Some, None}
use Rattle.spark_base.specs.declared.numbers.TypeNo.{TypeNo}
use Rattle.ada_forms.specs.Forms.{Expr, Identifier, ValueChoice, OthersChoice}
use Rattle.expr_outlines.specs.Outlines.{choices_of}
use Rattle.part_slots.specs.declared.slots.Slot.{Slot}
use Rattle.part_slots.specs.declared.slots.Slot.TheVariants as slots
use Rattle.part_slots.specs.declared.slots.Pairing.{Pairing}
use Rattle.part_slots.specs.declared.slots.Pairing.TheVariants as pairings
use Rattle.part_slots.specs.Calls.{or_taken, place_by}
use Rattle.seen_types.specs.declared.seen.FieldSeen.{FieldSeen}
use Rattle.seen_types.specs.declared.seen.Shape.{Shape}
use Rattle.seen_types.specs.declared.seen.Shape.TheVariants as shapes
use Rattle.seen_types.specs.declared.seen.ExprType.TheVariants as types
use Rattle.seen_names.specs.declared.context.Tables.{Tables}
use Rattle.seen_names.specs.Contexts.{key_of}

-- Values by their places, so many: each component in turn

abbrev pub type_of_field : ℕ × FieldSeen → TypeNo
type_of_field f = f.1.of

abbrev pub slot_of_field : Option (ℕ × FieldSeen) → Slot
slot_of_field None = slots.Surplus
slot_of_field (Some f) = slots.Given (Some (types.Of f.1.of))

abbrev pub own_slot : List (ℕ × FieldSeen) → ℕ → Slot
own_slot fields n = slot_of_field (slice_get fields n)

-- those of the first so many
abbrev pub own_slots : List (ℕ × FieldSeen) → ℕ → List Slot
own_slots fields zero = []
own_slots fields (suc n) = own_slots fields n ++ own_slot fields n ∷ []

-- the last value may be that of `others`, for the components that are left
abbrev pub component_slots : List (ℕ × FieldSeen) → Bool → ℕ → List Slot
component_slots fields has_others count =
    if has_others then own_slots fields (count - 1) ++ slots.Shared (map type_of_field (drop (count - 1) fields)) ∷ []
    else own_slots fields count

unfoldable pub positional_slots : Option Shape → Bool → ℕ → List Slot
positional_slots (Some (shapes.Fields fields)) has_others count = component_slots fields has_others count
positional_slots (Some (shapes.Array index of)) has_others count = replicate count (slots.Given (Some (types.Of of)))
positional_slots s has_others count = []

-- Associations of components

pub record Taken : Type 0 where
  -- the places of the components that have their values, in the order in which they got them
  pub places : List ℕ
  -- behind `others`
  pub is_closed : Bool
  -- no choice names what is no component
  pub is_clear : Bool

abbrev pub nothing_taken : Taken
nothing_taken = record { places = []; is_closed = false; is_clear = true }

abbrev pub place_chosen : Tables → List (ℕ × FieldSeen) → Expr → Option ℕ
place_chosen tables fields (ValueChoice e at (Identifier f place name)) = place_by fields (key_of tables name)
place_chosen tables fields t = None

abbrev pub is_others : Expr → Bool
is_others (OthersChoice e at) = true
is_others t = false

-- with the places from this one on, so many
abbrev pub with_places : List ℕ → ℕ → List (ℕ × FieldSeen) → List ℕ
with_places places n [] = places
with_places places n (f ∷ fs) = with_places (or_taken places n) (n + 1) fs

abbrev pub with_rest : List (ℕ × FieldSeen) → Taken → Taken
with_rest fields s = record { places = with_places s.places 0 fields; is_closed = true; is_clear = s.is_clear }

abbrev pub with_place : Taken → Option ℕ → Taken
with_place s None = record { places = s.places; is_closed = s.is_closed; is_clear = false }
with_place s (Some n) = record { places = or_taken s.places n; is_closed = s.is_closed; is_clear = s.is_clear }

abbrev pub with_component : Tables → List (ℕ × FieldSeen) → Taken → Expr → Taken
with_component tables fields s t =
    if s.is_closed then s else if is_others t then with_rest fields s else with_place s (place_chosen tables fields t)

abbrev pub taken_by : Tables → List (ℕ × FieldSeen) → Taken → List Expr → Taken
taken_by tables fields s [] = s
taken_by tables fields s (t ∷ ts) = taken_by tables fields (with_component tables fields s t) ts

abbrev pub are_missing : List (ℕ × FieldSeen) → Taken → Bool
are_missing fields s = s.is_clear && nat_lt (length s.places) (length fields)

abbrev pub type_at : List (ℕ × FieldSeen) → ℕ → List TypeNo
type_at fields n = map type_of_field (take 1 (drop n fields))

abbrev pub types_at : List (ℕ × FieldSeen) → List ℕ → List TypeNo
types_at fields [] = []
types_at fields (n ∷ ns) = type_at fields n ++ types_at fields ns

-- the types of the components that an association names
abbrev pub types_named : List (ℕ × FieldSeen) → Taken → Taken → List TypeNo
types_named fields old new = types_at fields (drop (length old.places) new.places)

abbrev pub component_pairings : Tables → List (ℕ × FieldSeen) → Taken → List Expr → List Pairing
component_pairings tables fields s [] = []
component_pairings tables fields s (t ∷ ts) =
    pairings.ForComponents (types_named fields s (taken_by tables fields s (choices_of t)))
    ∷ component_pairings tables fields (taken_by tables fields s (choices_of t)) ts

-- how associations are read
unfoldable pub pairings_for : Tables → Option Shape → List Expr → List Pairing
pairings_for tables (Some (shapes.Fields fields)) pairs = component_pairings tables fields nothing_taken pairs
pairings_for tables (Some (shapes.Array index of)) pairs = replicate (length pairs) (pairings.ForElements index of)
pairings_for tables s pairs = []

-- of pairings for associations: those for which none is left are for nothing

abbrev pub pairing_at : List Pairing → Pairing
pairing_at [] = pairings.ForNothing
pairing_at (p ∷ ps) = p

abbrev pub pairings_behind : List Pairing → List Pairing
pairings_behind [] = []
pairings_behind (p ∷ ps) = ps

-- The parts of one association: its choices, and last its value

abbrev pub value_slot : Pairing → Slot
value_slot (pairings.ForComponents of) = slots.Shared of
value_slot (pairings.ForElements index of) = slots.Given (Some (types.Of of))
value_slot pairings.ForNothing = slots.Alone

-- of elements, with so many choices
abbrev pub element_slots : TypeNo → TypeNo → ℕ → List Slot
element_slots index of choices = replicate choices (slots.Choice (Some index)) ++ slots.Given (Some (types.Of of)) ∷ []
