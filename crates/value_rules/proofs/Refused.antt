-- What follows from a part that was refused.
use Rattle.std.proofs.Common.{◌≡◌, ◌&&◌, Bool, true, false, if◌then◌else◌, [], Option, Some, None, refl}
use Rattle.ada_forms.specs.declared.forms.BinaryOperator.{BinaryOperator}
use Rattle.seen_names.specs.Contexts.{Context, sight_at}
use Rattle.seen_names.specs.Entities.{sure_in, type_in}
use Rattle.seen_names.specs.declared.entities.Entity.{Entity}
use Rattle.seen_names.specs.declared.entities.Entity.TheVariants.{Nothing}
use Rattle.seen_types.specs.Operators.{binary_of, do_not_go}
use Rattle.seen_types.specs.Types.{Sight}
use Rattle.seen_types.specs.declared.seen.ExprType.{ExprType}
use Rattle.spark_base.specs.declared.numbers.Pos.{Pos}
use Rattle.static_eval.specs.declared.judgements.Failure.{Failure}
use Rattle.static_eval.specs.declared.judgements.Failure.TheVariants as failures
use Rattle.static_eval.specs.declared.judgements.Fault.{Fault}
use Rattle.static_eval.specs.declared.judgements.Judgement.{Judgement}
use Rattle.value_rules.specs.Branches.{fits_so_far, is_test, with_branch, with_value}
use Rattle.value_rules.specs.Operators.{binary, binary_found}
use Rattle.value_rules.specs.Statics.{failure_found, faults}
use Rattle.value_rules.specs.declared.branches.Branches.{Branches}

unmade : (v : Sight) (operator : BinaryOperator) (a : Option ExprType) → binary_of v operator a None ≡ None
unmade v operator None = refl
unmade v operator (Some t) = refl

pub whole : (c : Context) (operator : BinaryOperator) (a : Entity) → binary c operator a Nothing ≡ Nothing
whole c operator a = rw (unmade (sight_at c) operator (type_in a)) refl

untyped : (a : Option ExprType) (made : Option ExprType) → do_not_go a None made ≡ false
untyped None made = refl
untyped (Some t) made = refl

unsure : (a : Bool) (b : Bool) → ((a && false) && b) ≡ false
unsure true b = refl
unsure false b = refl

no_failure : (f : Failure) (at : Pos) → failure_found false false f at ≡ []
no_failure failures.Outside at = refl
no_failure failures.Divided at = refl

no_fault : (f : Option Fault) → faults false false f ≡ []
no_fault None = refl
no_fault (Some f) = no_failure f.failure f.place

pub found : (c : Context) (operator : BinaryOperator) (at start : Pos) (a : Entity) (j k : Judgement)
    → binary_found c operator at start a Nothing j k ≡ []
found c operator at start a j k = rw (untyped (type_in a) _) (rw (unsure (sure_in a) _) (no_fault _))

either_bad : (b : Bool) (s : Branches) (t : Branches) → s.is_bad ≡ true → t.is_bad ≡ true → (if b then s else t).is_bad ≡ true
either_bad true s t p q = p
either_bad false s t p q = q

value_bad : (c : Context) (s : Branches) (a : Entity) (of : Option ExprType) → s.is_bad ≡ true → (with_value c s a of).is_bad ≡ true
value_bad c s a None h = refl
value_bad c s a (Some t) h = either_bad (fits_so_far c s.result t) _ _ h refl

pub stays_bad : (c : Context) (s : Branches) (is_last : Bool) (a : Entity) → s.is_bad ≡ true → (with_branch c s is_last a).is_bad ≡ true
stays_bad c s is_last a h = either_bad (is_test s is_last) _ _ h (value_bad c s a (type_in a) h)
