-- The bounds and moduli of types, and their refusals.
use Rattle.std.specs.Prelude.{◌^◌, Bool, true, Option, Some, None, ◌&&◌, ◌||◌, ℤ, pos, if◌then◌else◌, int_lt, int_le, unsigned_abs}
use Rattle.spark_base.specs.declared.numbers.Pos.{Pos}
use Rattle.spark_messages.specs.declared.messages.Code.TheVariants as codes
use Rattle.static_meanings.specs.declared.meanings.Range.{Range}
use Rattle.static_eval.specs.declared.judgements.Judgement.{Judgement}
use Rattle.static_eval.specs.declared.values.Verdict.{Verdict}
use Rattle.static_eval.specs.declared.values.Verdict.TheVariants as verdicts
use Rattle.static_eval.specs.Values.{verdict_of}
use Rattle.types_objects.specs.declared.bounds.Formed.{Formed}
use Rattle.types_objects.specs.declared.bounds.Formed.TheVariants as made

abbrev pub disallowed : Pos → Formed
disallowed place = made.Refused codes.Y05 place

-- a value, or the refusal
abbrev pub with_value : Verdict → (ℤ → Formed) → Formed
with_value (verdicts.Refused code place) f = made.Refused code place
with_value (verdicts.Value n) f = f n

-- an empty type is refused at its low bound
abbrev pub ordered : ℤ → ℤ → Pos → Formed
ordered low high place = if int_lt high low then disallowed place else made.Bounds low high

-- `range L .. H`
abbrev pub of_bounds : Judgement → Judgement → Formed
of_bounds low high = with_value (verdict_of low) (λ l. with_value (verdict_of high) (λ h. ordered l h low.begins))

abbrev pub of_number : ℤ → Pos → Formed
of_number m place = if int_lt m (pos 2) || int_lt (pos (2 ^ 64)) m then disallowed place else made.Modulus (unsigned_abs m)

-- `mod M`
abbrev pub of_modulus : Judgement → Formed
of_modulus m = with_value (verdict_of m) (λ n. of_number n m.begins)

-- whether a bound lies in the subtype that is named, if that has a range
abbrev pub is_inside : Option Range → ℤ → Bool
is_inside None n = true
is_inside (Some range) n = int_le range.low n && int_le n range.high

abbrev pub of_high : Option Range → ℤ → Judgement → Formed
of_high range low high = with_value (verdict_of high) (λ h. if is_inside range h then made.Bounds low h else disallowed high.begins)

-- `M range L .. H`
abbrev pub of_subtype : Option Range → Judgement → Judgement → Formed
of_subtype range low high = with_value (verdict_of low) (λ l. if is_inside range l then of_high range l high else disallowed low.begins)
