-- The packages of units. Where no name is declared twice, the name of the first spec has the number 0, that of the second 1, and so on.
use Rattle.std.specs.Prelude.{ℕ, zero, suc, ◌+◌, nat_eq, Bool, true, false, ◌&&◌, List, [], ◌∷◌, ◌++◌, count_by, position, slice_get, Option, Some, None, if◌then◌else◌}
use Rattle.std.specs.List.{flat_map}
use Rattle.unit_names.specs.declared.heads.Head.{Head}
use Rattle.unit_names.specs.declared.heads.Part.{Part}
use Rattle.unit_names.specs.declared.heads.Part.TheVariants as parts
use Rattle.unit_names.specs.declared.heads.Withed.{Withed}
use Rattle.unit_names.specs.declared.heads.Withed.TheVariants as names
use Rattle.unit_names.specs.Names.{is_part}
use Rattle.package_order.specs.declared.packages.Item.{Item}
use Rattle.package_order.specs.declared.packages.Package.{Package}

abbrev pub package_in : Withed → List ℕ
package_in (names.Package name) = name ∷ []
package_in names.Clock = []
package_in names.Elsewhere = []

-- the packages in with clauses
abbrev pub packages_in : List Withed → List ℕ
packages_in ws = flat_map package_in ws

abbrev pub part_by : Bool → Part
part_by false = parts.Spec
part_by true = parts.Body

abbrev pub is_of : Bool → Head → Bool
is_of is_body h = is_part (part_by is_body) h.part

abbrev pub place_from : (Head → Bool) → ℕ → List Head → Option ℕ
place_from is n [] = None
place_from is n (h ∷ hs) = if is h then Some n else place_from is (n + 1) hs

abbrev pub has_name : Part → ℕ → Head → Bool
has_name part name h = is_part part h.part && nat_eq h.name name

-- the first unit of this part and name, by its place among all units
abbrev pub unit_of : List Head → Part → ℕ → Option ℕ
unit_of heads part name = place_from (has_name part name) 0 heads

abbrev pub head_at : List Head → Option ℕ → Option Head
head_at heads None = None
head_at heads (Some n) = slice_get heads n

abbrev pub packages_by : Option Head → List ℕ
packages_by None = []
packages_by (Some h) = packages_in h.withs

abbrev pub body_by : Option Head → Option (List ℕ)
body_by None = None
body_by (Some h) = Some (packages_in h.withs)

-- what the spec and the body of a name with
abbrev pub package_of : List Head → ℕ → Package
package_of heads name = record {
  withs = packages_by (head_at heads (unit_of heads parts.Spec name));
  body_withs = body_by (head_at heads (unit_of heads parts.Body name));
}

abbrev pub packages_below : List Head → ℕ → List Package
packages_below heads zero = []
packages_below heads (suc n) = packages_below heads n ++ package_of heads n ∷ []

abbrev pub is_spec : Head → Bool
is_spec h = is_part parts.Spec h.part

abbrev pub spec_count : List Head → ℕ
spec_count heads = count_by is_spec heads

-- a package for each spec, in their order
abbrev pub packages_of : List Head → List Package
packages_of heads = packages_below heads (spec_count heads)

abbrev pub unit_of_item : List Head → Item → Option ℕ
unit_of_item heads item = unit_of heads (part_by item.is_body) item.number

abbrev pub listed : Option ℕ → List ℕ
listed None = []
listed (Some n) = n ∷ []

-- the units of items
abbrev pub units_of : List Head → List Item → List ℕ
units_of heads items = flat_map (λ (i : Item). listed (unit_of_item heads i)) items

abbrev pub is_main : Head → Bool
is_main h = is_part parts.Main h.part

-- the main, by its place among all units
abbrev pub main_of : List Head → Option ℕ
main_of heads = position is_main heads
