-- What a value breaks where it stands.
use Rattle.std.specs.Prelude.{if◌then◌else◌, Bool, true, false, not, List, Option, Some, None, []}
use Rattle.name_findings.specs.Findings.{Finding, refuse_mention, refuse_silent}
use Rattle.name_findings.specs.declared.findings.Mention.{Mention}
use Rattle.seen_names.specs.Contexts.{Context, sight_at}
use Rattle.seen_names.specs.declared.entities.Entity.{Entity}
use Rattle.seen_names.specs.declared.entities.Entity.TheVariants.{Valuable}
use Rattle.seen_names.specs.declared.shown.Role.{Role}
use Rattle.seen_names.specs.declared.shown.Role.TheVariants as roles
use Rattle.seen_types.specs.Types.{boolean, is_integral, is_of, is_unfit, lacks}
use Rattle.seen_types.specs.declared.seen.ExprType.{ExprType}
use Rattle.seen_types.specs.declared.seen.ExprType.TheVariants as types
use Rattle.spark_base.specs.declared.numbers.Pos.{Pos}
use Rattle.spark_base.specs.declared.numbers.TypeNo.{TypeNo}
use Rattle.spark_messages.specs.declared.messages.Code.TheVariants as codes
use Rattle.value_rules.specs.Branches.{fits_so_far}

-- N06: what is written is no variable, or no part of one

-- in a function of its protected unit a component is not written
abbrev pub is_fixed_in : Bool → Role → Bool
is_fixed_in in_function roles.Variable = false
is_fixed_in in_function roles.Component = in_function
is_fixed_in in_function role = true

abbrev pub or_mention : Option Mention → Option Mention → Option Mention
or_mention None b = b
or_mention (Some a) b = Some a

-- at the object that it is a part of, or at its last word
abbrev pub written_found : Bool → Option Mention → Entity → List Finding
written_found in_function m (Valuable v) = if is_fixed_in in_function v.role then refuse_mention codes.N06 (or_mention v.source m) else []
written_found in_function m a = []

-- Y04: it has not the type that is asked for; what has none breaks no rule

abbrev pub unfit_found : Context → Option ExprType → Pos → Option ExprType → List Finding
unfit_found c of at a = refuse_silent (is_unfit (sight_at c) a of) codes.Y04 at

abbrev pub is_unfit_for : Context → Option ExprType → TypeNo → Bool
is_unfit_for c a t = is_unfit (sight_at c) a (Some (types.Of t))

-- a value of a conditional expression, of another type than those before
abbrev pub is_no_branch : Context → Option ExprType → Option ExprType → Bool
is_no_branch c before None = false
is_no_branch c before (Some t) = not (fits_so_far c before t)

abbrev pub is_no_condition : Context → Option ExprType → Bool
is_no_condition c a = lacks (is_of (sight_at c) boolean) a

abbrev pub is_no_number : Context → Option ExprType → Bool
is_no_number c a = lacks (is_integral (sight_at c)) a
