-- Static values of names, and the rules of static values: Y01, Y02, Y03.
use Rattle.std.specs.Prelude.{◌^◌, ◌&&◌, if◌then◌else◌, ℕ, Bool, true, nat_lt, List, map, is_none, ℤ, Option, Some, None, []}
use Rattle.ada_forms.specs.declared.attributes.Property.{Property}
use Rattle.ada_forms.specs.declared.forms.BinaryOperator.{BinaryOperator}
use Rattle.ada_forms.specs.declared.forms.UnaryOperator.{UnaryOperator}
use Rattle.name_findings.specs.Findings.{Finding, refuse_silent}
use Rattle.seen_names.specs.Contexts.{Context, sight_at}
use Rattle.seen_names.specs.Entities.{as_value}
use Rattle.seen_names.specs.declared.entities.Entity.{Entity}
use Rattle.seen_names.specs.declared.entities.Entity.TheVariants.{Mark, Product, Valuable}
use Rattle.seen_names.specs.declared.shown.Value.{Value}
use Rattle.seen_names.specs.declared.shown.Value.TheVariants as values
use Rattle.seen_types.specs.Types.{range_of}
use Rattle.seen_types.specs.declared.seen.ExprType.{ExprType}
use Rattle.seen_types.specs.declared.seen.ExprType.TheVariants as types
use Rattle.spark_base.specs.declared.numbers.Pos.{Pos}
use Rattle.spark_base.specs.declared.numbers.TypeNo.{TypeNo}
use Rattle.spark_messages.specs.declared.messages.Code.TheVariants as codes
use Rattle.static_eval.specs.Judgements as says
use Rattle.static_meanings.specs.Meanings.{mark, object, scale, unknown}
use Rattle.static_eval.specs.declared.judgements.Failure.{Failure}
use Rattle.static_eval.specs.declared.judgements.Failure.TheVariants as failures
use Rattle.static_eval.specs.declared.judgements.Fault.{Fault}
use Rattle.static_eval.specs.declared.judgements.Judgement.{Judgement}
use Rattle.static_meanings.specs.declared.meanings.Meaning.{Meaning}
use Rattle.static_meanings.specs.declared.meanings.Range.{Range}

-- What names mean, as far as static values go

abbrev pub range_named : Context → Option TypeNo → Option Range
range_named c None = None
range_named c (Some t) = range_of (sight_at c) t

abbrev pub range_typed : Context → Option ExprType → Option Range
range_typed c (Some (types.Of t)) = range_of (sight_at c) t
range_typed c _ = None

abbrev pub known_value : Value → Option ℤ
known_value (values.Known n) = Some n
known_value _ = None

abbrev pub value_meaning : Context → Entity → Meaning
value_meaning c (Valuable v) = object (range_typed c v.of) (known_value v.value)
value_meaning c _ = unknown

abbrev pub meaning_of : Context → Entity → Meaning
meaning_of c (Mark t) = mark (range_named c t)
meaning_of c (Product m factor) = scale factor
meaning_of c a = value_meaning c (as_value c a)

abbrev pub mark_said : Context → Pos → Option ExprType → Judgement
mark_said c at t = says.identifier at (mark (range_typed c t))

abbrev pub static_value : Bool → Judgement → Option ℤ
static_value sure j = if sure && j.is_static then j.value else None

-- Y02: not static by its form, or without value, but for a part that breaks a rule of its own

abbrev pub lacks_value : Judgement → Bool
lacks_value j = if j.is_static then is_none j.value && is_none j.fault else true

abbrev pub unstatic_found : Pos → Bool → Judgement → List Finding
unstatic_found at sure j = refuse_silent (sure && lacks_value j) codes.Y02 at

-- Y01 and Y03: what an operator breaks by itself, aside from its parts

abbrev pub quiet : Judgement → Judgement
quiet j = record j { fault = None }

abbrev pub failure_found : Bool → Bool → Failure → Pos → List Finding
failure_found divisor_sure sure failures.Outside place = refuse_silent sure codes.Y01 place
failure_found divisor_sure sure failures.Divided place = refuse_silent divisor_sure codes.Y03 place

abbrev pub faults : Bool → Bool → Option Fault → List Finding
faults divisor_sure sure None = []
faults divisor_sure sure (Some fault) = failure_found divisor_sure sure fault.failure fault.place

abbrev pub number_faults : Pos → ℕ → List Finding
number_faults at n = if nat_lt n (2 ^ 127) then [] else refuse_silent true codes.Y01 at

-- a static zero on the right is refused whatever stands on the left
abbrev pub binary_faults : BinaryOperator → Pos → Bool → Bool → Judgement → Judgement → List Finding
binary_faults operator at divisor_sure sure a b =
    faults divisor_sure sure (says.binary operator at at (quiet a) (quiet b)).fault

abbrev pub unary_faults : UnaryOperator → Pos → Bool → Judgement → List Finding
unary_faults operator at sure a = faults sure sure (says.unary operator at (quiet a)).fault

abbrev pub applied_faults : Pos → Bool → Meaning → List Judgement → List Finding
applied_faults at sure m parts = faults sure sure (says.applied at m (map quiet parts)).fault

abbrev pub attribute_faults : Pos → Bool → Property → List Judgement → List Finding
attribute_faults at sure what parts = faults sure sure (says.attribute at what (map quiet parts)).fault
