-- The inner parts of an expression, downwards.
use Rattle.std.proofs.Common.{◌≡◌, ◌≤◌, List, [], ◌∷◌, ◌++◌, Some, refl, sym, ap, ◌∙◌, subst}
use Rattle.std.specs.Prelude.{All}
use Rattle.std.proofs.lemmas.List.Elements.{All-push}
use Rattle.spark_base.specs.declared.numbers.ExprNo.{ExprNo}
use Rattle.ada_tree.specs.declared.expressions.ExprNode.{ExprNode}
use Rattle.ada_forms.specs.Forms.{expr_of}
use Rattle.expr_scenes.specs.declared.spines.Step.{Step}
use Rattle.expr_scenes.specs.Overs.{Leads, inner, inner_reading, reversed}

pub reversed_snoc : {A : Type 0} (xs : List A) (x : A) → reversed (xs ++ x ∷ []) ≡ x ∷ reversed xs
reversed_snoc [] x = refl
reversed_snoc (y ∷ xs) x = ap (λ ys. ys ++ y ∷ []) (reversed_snoc xs x)

-- one step further down
pub leads_on : (exprs : List ExprNode) (whole at below : Step) (above pushed : List Step) → Leads exprs whole (reversed above) at
    → inner (expr_of exprs at.e) ≡ Some (expr_of exprs below.e) → below.reading ≡ inner_reading (expr_of exprs at.e)
    → pushed ≡ above ++ at ∷ [] → Leads exprs whole (reversed pushed) below
leads_on exprs whole at below above pushed leads child read is =
    subst (λ xs. Leads exprs whole xs below) (sym (ap reversed is ∙ reversed_snoc above at)) (child, read, leads)

pub all_low : (e : ExprNo) (at : Step) (above pushed : List Step) → All (λ (x : Step). x.e.0 ≤ e.0) above → at.e.0 ≤ e.0
    → pushed ≡ above ++ at ∷ [] → All (λ (x : Step). x.e.0 ≤ e.0) pushed
all_low e at above pushed all low is =
    subst (λ xs. All (λ (x : Step). x.e.0 ≤ e.0) xs) (sym is) (All-push (λ (x : Step). x.e.0 ≤ e.0) above at all low)
