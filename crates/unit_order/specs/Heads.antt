-- The names of units, by numbers.
use Rattle.std.specs.Prelude.{ℕ, Bool, ◌&&◌, if◌then◌else◌, List, [], ◌∷◌, ◌++◌, map, position, Option, Some, None, unwrap_or, codes}
use Rattle.std.specs.Str.{bytes_eq}
use Rattle.spark_base.specs.declared.name.Name.{Name}
use Rattle.ada_tree.specs.declared.units.Unit.{Unit as TheUnit}
use Rattle.ada_tree.specs.declared.units.UnitKind.{UnitKind}
use Rattle.ada_tree.specs.declared.units.UnitKind.TheVariants as kinds
use Rattle.ada_tree.specs.declared.units.Units.{Units}
use Rattle.ada_forms.specs.Forms.{Expr, Identifier, Selected}
use Rattle.name_keys.specs.Keys.{is_known}
use Rattle.unit_names.specs.declared.heads.Head.{Head}
use Rattle.unit_names.specs.declared.heads.Part.{Part}
use Rattle.unit_names.specs.declared.heads.Part.TheVariants as parts
use Rattle.unit_names.specs.declared.heads.Withed.{Withed}
use Rattle.unit_names.specs.declared.heads.Withed.TheVariants as names
use Rattle.unit_names.specs.Names.{is_part}
use Rattle.unit_order.specs.Withs.{withs_of}

abbrev pub part_of : UnitKind → Part
part_of (kinds.Spec hides last) = parts.Spec
part_of (kinds.PackageBody acts last) = parts.Body
part_of (kinds.Main last) = parts.Main

abbrev pub key_by : Option Name → List ℕ
key_by None = []
key_by (Some name) = name.key

-- the name of a unit, in lower case
abbrev pub key_of : TheUnit → List ℕ
key_of x = key_by x.name

abbrev pub added : List (List ℕ) → List ℕ → List (List ℕ)
added keys key = if is_known keys key then keys else keys ++ key ∷ []

abbrev pub is_spec : UnitKind → Bool
is_spec kind = is_part parts.Spec (part_of kind)

abbrev pub spec_added : List (List ℕ) → TheUnit → List (List ℕ)
spec_added keys x = if is_spec x.kind then added keys (key_of x) else keys

abbrev pub with_specs : List (List ℕ) → List TheUnit → List (List ℕ)
with_specs keys [] = keys
with_specs keys (x ∷ xs) = with_specs (spec_added keys x) xs

abbrev pub with_all : List (List ℕ) → List TheUnit → List (List ℕ)
with_all keys [] = keys
with_all keys (x ∷ xs) = with_all (added keys (key_of x)) xs

-- the names of units, each once: those of specs, in their order, and then the others, in theirs
abbrev pub keys_of : List TheUnit → List (List ℕ)
keys_of units = with_all (with_specs [] units) units

-- the number of a name is its place among them
abbrev pub number_of : List (List ℕ) → List ℕ → Option ℕ
number_of keys key = position (bytes_eq key) keys

abbrev pub package_or : Option ℕ → Withed
package_or None = names.Elsewhere
package_or (Some n) = names.Package n

abbrev pub clock_or : Name → Expr → Withed
clock_or name (Identifier e at first) =
    if bytes_eq first.key (codes "ada") && bytes_eq name.key (codes "real_time") then names.Clock else names.Elsewhere
clock_or name _ = names.Elsewhere

-- what a with clause names: one identifier that is the name of a unit, Ada.Real_Time, or something else
abbrev pub withed_by : List (List ℕ) → Expr → Withed
withed_by keys (Identifier e at name) = package_or (number_of keys name.key)
withed_by keys (Selected e at name prefix) = clock_or name prefix
withed_by keys _ = names.Elsewhere

-- each unit's name is there, so the default never comes
abbrev pub head_of : Units → List (List ℕ) → TheUnit → Head
head_of u keys x = record {
  part = part_of x.kind;
  name = unwrap_or (number_of keys (key_of x)) 0;
  withs = map (withed_by keys) (withs_of u x.decls);
}

abbrev pub heads_of : Units → List Head
heads_of u = map (head_of u (keys_of u.units)) u.units
