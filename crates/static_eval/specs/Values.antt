-- The value of a static expression.
use Rattle.std.specs.Prelude.{◌≡◌, Bool, false, ◌&&◌, Option, Some, None, Result, Ok, Err, ℤ, if◌then◌else◌, nat_eq, slice_get}
use Rattle.spark_base.specs.declared.numbers.ExprNo.{ExprNo}
use Rattle.spark_base.specs.declared.numbers.FileNo.{FileNo}
use Rattle.spark_base.specs.declared.numbers.Pos.{Pos}
use Rattle.spark_messages.specs.MessageTexts.{refusal_text}
use Rattle.spark_messages.specs.declared.messages.Code.{Code}
use Rattle.spark_messages.specs.declared.messages.Code.TheVariants as codes
use Rattle.spark_messages.specs.declared.messages.Kind.TheVariants as kinds
use Rattle.spark_messages.specs.declared.messages.Message.{Message}
use Rattle.spark_messages.specs.declared.messages.PhaseFault.{PhaseFault}
use Rattle.spark_messages.specs.declared.messages.PhaseFault.TheVariants as faults
use Rattle.ada_tree.specs.declared.expressions.ExprNode.{ExprNode}
use Rattle.ada_tree.specs.declared.units.Units.{Units}
use Rattle.static_eval.specs.declared.judgements.Failure.{Failure}
use Rattle.static_eval.specs.declared.judgements.Failure.TheVariants as failures
use Rattle.static_eval.specs.declared.judgements.Fault.{Fault}
use Rattle.static_eval.specs.declared.judgements.Judgement.{Judgement}
use Rattle.static_eval.specs.declared.known.Known.{Known}
use Rattle.static_eval.specs.declared.values.Verdict.{Verdict}
use Rattle.static_eval.specs.declared.values.Verdict.TheVariants as verdicts
use Rattle.static_eval.specs.Known.{said}

abbrev pub code_of : Failure → Code
code_of failures.Outside = codes.Y01
code_of failures.Divided = codes.Y03

abbrev pub is_same : Pos → Pos → Bool
is_same a b = nat_eq a.line b.line && nat_eq a.col b.col

-- a value outside 128 bits at the very first token has the lower code
abbrev pub comes_first_by : Failure → Pos → Pos → Bool
comes_first_by failures.Outside place at = is_same place at
comes_first_by failures.Divided place at = false

abbrev pub comes_first : Fault → Pos → Bool
comes_first fault at = comes_first_by fault.failure fault.place at

abbrev pub not_static : Pos → Verdict
not_static at = verdicts.Refused codes.Y02 at

abbrev pub broken : Fault → Verdict
broken fault = verdicts.Refused (code_of fault.failure) fault.place

abbrev pub of_static : Option Fault → Option ℤ → Pos → Verdict
of_static (Some fault) value at = broken fault
of_static None (Some n) at = verdicts.Value n
of_static None None at = not_static at

abbrev pub of_other : Option Fault → Pos → Verdict
of_other None at = not_static at
of_other (Some fault) at = if comes_first fault at then broken fault else not_static at

-- what comes of an expression that has to be static
unfoldable pub verdict_of : Judgement → Verdict
verdict_of j = if j.is_static then of_static j.fault j.value j.begins else of_other j.fault j.begins

abbrev pub message_of : FileNo → Code → Pos → Message
message_of file code place = record { file = file; place = place; code = code; text = refusal_text code; kind = kinds.Refused }

abbrev pub file_of : Option ExprNode → FileNo
file_of None = record { 0 = 0 }
file_of (Some node) = node.span.file

-- the message of this refusal, or want of memory
abbrev pub IsRefusal : FileNo → Code → Pos → PhaseFault → Type 0
IsRefusal file code place (faults.Refused m) = m ≡ message_of file code place
IsRefusal file code place faults.NoMemory = Unit {0}

abbrev pub IsAnswer : FileNo → Verdict → Result ℤ PhaseFault → Type 0
IsAnswer file (verdicts.Value n) (Ok m) = m ≡ n
IsAnswer file (verdicts.Value n) (Err (faults.Refused m)) = ⊥
IsAnswer file (verdicts.Value n) (Err faults.NoMemory) = Unit {0}
IsAnswer file (verdicts.Refused code place) (Ok m) = ⊥
IsAnswer file (verdicts.Refused code place) (Err fault) = IsRefusal file code place fault

-- this is the value of an expression, or the message of its refusal
abbrev pub IsValue : Units → Known → ExprNo → Result ℤ PhaseFault → Type 0
IsValue u k e result = IsAnswer (file_of (slice_get u.exprs e.0)) (verdict_of (said u k e)) result
