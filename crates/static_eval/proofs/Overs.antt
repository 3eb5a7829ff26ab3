-- What is said over the first child is what is said of the whole.
use Rattle.std.proofs.Common.{◌≡◌, Bool, [], ◌∷◌, sym, ap, ◌∙◌, subst}
use Rattle.std.specs.Prelude.{IfOk, Result}
use Rattle.spark_base.specs.declared.numbers.ExprNo.{ExprNo}
use Rattle.spark_base.specs.declared.numbers.Pos.{Pos}
use Rattle.ada_forms.specs.declared.forms.BinaryOperator.{BinaryOperator}
use Rattle.static_eval.specs.declared.judgements.Judgement.{Judgement}
use Rattle.static_meanings.specs.declared.meanings.Meaning.{Meaning}
use Rattle.ada_forms.specs.Forms.{Expr, Binary, Constrained, InRange}
use Rattle.static_eval.specs.Judged.{first_of, judged, said_of}
use Rattle.static_eval.specs.Judgements as says

pub result_as : {E : Type 0} (r : Result Judgement E) (a b : Judgement) → a ≡ b → IfOk r (λ j. j ≡ a) → IfOk r (λ j. j ≡ b)
result_as r a b e h = subst (λ (x : Judgement). IfOk r (λ j. j ≡ x)) e h

module _ (means : Expr → Meaning) (t : Expr) (first : Judgement) (said : first ≡ said_of means (first_of t)) where
  pub over_binary : (e : ExprNo) (at : Pos) (operator : BinaryOperator) (place : Pos) (left right : Expr) → t ≡ Binary e at operator place left right
      → says.binary operator at place first (judged means right) ≡ judged means t
  over_binary e at operator place left right is =
      ap (λ j. says.binary operator at place j (judged means right)) (said ∙ ap (λ x. said_of means (first_of x)) is) ∙ sym (ap (judged means) is)

  pub over_range : (e : ExprNo) (at : Pos) (is_not : Bool) (value low high : Expr) → t ≡ InRange e at is_not value low high
      → says.in_range at is_not first (judged means low) (judged means high) ≡ judged means t
  over_range e at is_not value low high is =
      ap (λ j. says.in_range at is_not j (judged means low) (judged means high)) (said ∙ ap (λ x. said_of means (first_of x)) is) ∙ sym (ap (judged means) is)

  pub over_constrained : (e : ExprNo) (at : Pos) (mark low high : Expr) → t ≡ Constrained e at mark low high
      → says.unstatic at (first ∷ judged means low ∷ judged means high ∷ []) ≡ judged means t
  over_constrained e at mark low high is =
      ap (λ j. says.unstatic at (j ∷ judged means low ∷ judged means high ∷ [])) (said ∙ ap (λ x. said_of means (first_of x)) is) ∙ sym (ap (judged means) is)
