-- What a conditional expression stands for, by its conditions and values.
use Rattle.std.specs.Prelude.{◌&&◌, if◌then◌else◌, Bool, true, false, not, Option, Some, None}
use Rattle.seen_names.specs.Contexts.{Context, sight_at}
use Rattle.seen_names.specs.Entities.{made, sure_in, type_in}
use Rattle.seen_names.specs.declared.entities.Entity.{Entity}
use Rattle.seen_names.specs.declared.entities.Entity.TheVariants.{Nothing}
use Rattle.seen_types.specs.Types.{fits, root}
use Rattle.seen_types.specs.declared.seen.ExprType.{ExprType}
use Rattle.seen_types.specs.declared.seen.ExprType.TheVariants as types
use Rattle.value_rules.specs.declared.branches.Branches.{Branches}

abbrev pub no_branches : Branches
no_branches = record { result = None; is_bad = false; is_sure = true; is_condition = true }

-- conditions and values in turn; the last part is a value
abbrev pub is_test : Branches → Bool → Bool
is_test s is_last = s.is_condition && not is_last

-- a value has the type of those before it
abbrev pub fits_so_far : Context → Option ExprType → ExprType → Bool
fits_so_far c None t = true
fits_so_far c (Some result) t = fits (sight_at c) t result

-- the type of the first value, but any integer gives way to a type
abbrev pub joined : Context → Option ExprType → ExprType → Option ExprType
joined c None t = Some (root (sight_at c) t)
joined c (Some types.AnyInteger) t = Some (root (sight_at c) t)
joined c result t = result

abbrev pub bad : Branches → Branches
bad s = record { result = s.result; is_bad = true; is_sure = false; is_condition = true }

abbrev pub with_typed : Context → Branches → Bool → ExprType → Branches
with_typed c s is_sure t =
    if fits_so_far c s.result t
    then record { result = joined c s.result t; is_bad = s.is_bad; is_sure = s.is_sure && is_sure; is_condition = true }
    else bad s

abbrev pub with_value : Context → Branches → Entity → Option ExprType → Branches
with_value c s a None = bad s
with_value c s a (Some t) = with_typed c s (sure_in a) t

abbrev pub with_condition : Branches → Entity → Branches
with_condition s a = record { result = s.result; is_bad = s.is_bad; is_sure = s.is_sure && sure_in a; is_condition = false }

-- behind a condition or a value
abbrev pub with_branch : Context → Branches → Bool → Entity → Branches
with_branch c s is_last a = if is_test s is_last then with_condition s a else with_value c s a (type_in a)

-- what the whole stands for, behind all its branches
abbrev pub conditional : Branches → Entity
conditional s = if s.is_bad then Nothing else made s.is_sure s.result
