-- A modulus that is not refused is one that a type may have.
use Rattle.std.proofs.Common.{◌≡◌, ℕ, ◌^◌, ◌≤◌, Bool, true, false, cond, ◌||◌, List, Option, Some, ℤ, pos, negsuc, int_lt, unsigned_abs, refl, subst, arith}
use Rattle.std.specs.Prelude.{slice_get}
use Rattle.std.proofs.lemmas.Int.{ints}
use Rattle.spark_base.specs.declared.numbers.Pos.{Pos}
use Rattle.static_eval.specs.declared.judgements.Judgement.{Judgement}
use Rattle.static_meanings.specs.declared.meanings.Range.{Range}
use Rattle.static_eval.specs.declared.values.Verdict.{Verdict}
use Rattle.static_eval.specs.declared.values.Verdict.TheVariants as verdicts
use Rattle.static_eval.specs.Values.{verdict_of}
use Rattle.types_objects.specs.declared.bounds.Formed.{Formed}
use Rattle.types_objects.specs.declared.bounds.Formed.TheVariants as formed
use Rattle.types_objects.specs.declared.types.TypeDef.{TypeDef}
use Rattle.types_objects.specs.declared.types.TypeForm.TheVariants as forms
use Rattle.types_objects.specs.Bounds.{disallowed, is_inside, of_bounds, of_high, of_modulus, of_subtype, with_value}
use Rattle.types_objects.specs.Types.{IsFormed, IsRanked}

abbrev pub IsSound : Formed → Type 0
IsSound (formed.Bounds low high) = Unit {0}
IsSound (formed.Modulus m) = (2 ≤ m) × (m ≤ 2 ^ 64)
IsSound (formed.Refused code place) = Unit {0}

value_sound : (v : Verdict) (f : ℤ → Formed) → ((n : ℤ) → IsSound (f n)) → IsSound (with_value v f)
value_sound (verdicts.Refused code place) f h = tt
value_sound (verdicts.Value n) f h = h n

choice_sound : (b : Bool) (x y : Formed) → IsSound x → IsSound y → IsSound (cond b x y)
choice_sound true x y h g = h
choice_sound false x y h g = g

pub bounds_sound : (low high : Judgement) → IsSound (of_bounds low high)
bounds_sound low high =
    value_sound (verdict_of low) _ (λ l. value_sound (verdict_of high) _ (λ h.
    choice_sound (int_lt h l) (disallowed low.begins) (formed.Bounds l h) tt tt))

pub subtype_sound : (range : Option Range) (low high : Judgement) → IsSound (of_subtype range low high)
subtype_sound range low high =
    value_sound (verdict_of low) _ (λ l. choice_sound (is_inside range l) (of_high range l high) (disallowed low.begins)
    (value_sound (verdict_of high) _ (λ h. choice_sound (is_inside range h) (formed.Bounds l h) (disallowed high.begins) tt tt)) tt)

number_by : (m : ℤ) (place : Pos) (a b : Bool) → int_lt m (pos 2) ≡ a → int_lt (pos (2 ^ 64)) m ≡ b
    → IsSound (cond (a || b) (disallowed place) (formed.Modulus (unsigned_abs m)))
number_by m place true b low high = tt
number_by m place false true low high = tt
number_by (pos n) place false false low high = (omega (arith, ints, low, high), omega (arith, ints, low, high))
number_by (negsuc n) place false false low high = absurd (omega (arith, ints, low))

pub modulus_sound : (m : Judgement) → IsSound (of_modulus m)
modulus_sound m = value_sound (verdict_of m) _ (λ n. number_by n m.begins (int_lt n (pos 2)) (int_lt (pos (2 ^ 64)) n) refl refl)

-- the modulus of a type of a table
pub modulus_within : (list : List TypeDef) (t : ℕ) (x : TypeDef) (m : ℕ) → IsRanked list → slice_get list t ≡ Some x → x.form ≡ forms.Modular m
    → (2 ≤ m) × (m ≤ 2 ^ 64)
modulus_within list t x m ranked is form = subst (IsFormed t) form (ranked.below t x is)
