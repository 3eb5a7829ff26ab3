-- What the names of units have to meet. Units stand in the order of the files, and of each file's source.
use Rattle.std.specs.Prelude.{ℕ, ◌+◌, nat_eq, Bool, true, false, not, ◌&&◌, ◌||◌, if◌then◌else◌, List, [], ◌∷◌, ◌++◌, length, Option, Some, None}
use Rattle.std.specs.List.{list_any}
use Rattle.std.specs.Option.{option_map, option_or}
use Rattle.unit_names.specs.declared.heads.Head.{Head}
use Rattle.unit_names.specs.declared.heads.Part.{Part}
use Rattle.unit_names.specs.declared.heads.Part.TheVariants as parts
use Rattle.unit_names.specs.declared.heads.Withed.{Withed}
use Rattle.unit_names.specs.declared.heads.Withed.TheVariants as names
use Rattle.unit_names.specs.declared.passes.UnitFault.{UnitFault}
use Rattle.unit_names.specs.declared.passes.UnitFault.TheVariants as faults

abbrev pub is_part : Part → Part → Bool
is_part parts.Spec parts.Spec = true
is_part parts.Body parts.Body = true
is_part parts.Main parts.Main = true
is_part _ _ = false

-- whether there is a unit of this part and name
abbrev pub has_part : List Head → Part → ℕ → Bool
has_part units part name = list_any (λ (h : Head). is_part part h.part && nat_eq h.name name) units

abbrev pub doubles : List Head → Part → ℕ → Bool
doubles before parts.Spec name = has_part before parts.Spec name || has_part before parts.Main name
doubles before parts.Body name = has_part before parts.Body name || has_part before parts.Main name
doubles before parts.Main name = has_part before parts.Spec name || has_part before parts.Body name

-- whether a unit has the name of one before it: of one of its part, or of a main, or as a main that of another
abbrev pub is_doubled : List Head → Head → Bool
is_doubled before h = doubles before h.part h.name

abbrev pub is_main : Head → Bool
is_main h = is_part parts.Main h.part

abbrev pub is_second : List Head → Head → Bool
is_second before h = is_main h && list_any is_main before

-- whether a unit is a body without a spec
abbrev pub is_bodiless : List Head → List Head → Head → Bool
is_bodiless units before h = is_part parts.Body h.part && not (has_part units parts.Spec h.name)

abbrev pub first_from : (List Head → Head → Bool) → List Head → List Head → Option ℕ
first_from fails before [] = None
first_from fails before (h ∷ hs) = if fails before h then Some (length before) else first_from fails (before ++ h ∷ []) hs

-- the place of the first unit that fails, as it stands behind those before it
abbrev pub first : (List Head → Head → Bool) → List Head → Option ℕ
first fails units = first_from fails [] units

-- whether what a with clause names is there: the spec of a package, or the clock
abbrev pub is_there : List Head → Withed → Bool
is_there units (names.Package name) = has_part units parts.Spec name
is_there units names.Clock = true
is_there units names.Elsewhere = false

abbrev pub absent_from : List Head → ℕ → List Withed → Option ℕ
absent_from units n [] = None
absent_from units n (w ∷ ws) = if is_there units w then absent_from units (n + 1) ws else Some n

-- the place of the first name that is not there
abbrev pub first_absent : List Head → List Withed → Option ℕ
first_absent units ws = absent_from units 0 ws

abbrev pub unseen_in : List Head → ℕ → Head → Option UnitFault
unseen_in units n h = option_map (faults.Unseen n) (first_absent units h.withs)

abbrev pub unseen_from : List Head → ℕ → List Head → Option UnitFault
unseen_from units n [] = None
unseen_from units n (h ∷ hs) = option_or (unseen_in units n h) (unseen_from units (n + 1) hs)

-- the first unit with a name that is not there, and the place of that name
abbrev pub first_unseen : List Head → Option UnitFault
first_unseen units = unseen_from units 0 units

-- the first fault, pass by pass
abbrev pub name_fault_of : List Head → Option UnitFault
name_fault_of units =
    option_or (option_map faults.Doubled (first is_doubled units))
    (option_or (option_map faults.SecondMain (first is_second units))
    (option_or (first_unseen units)
    (option_map faults.WithoutSpec (first (is_bodiless units) units))))
