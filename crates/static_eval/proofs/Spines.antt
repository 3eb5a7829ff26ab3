-- The first children from an expression down, and up again.
use Rattle.std.proofs.Common.{◌≡◌, ◌<◌, ◌≤◌, arith, List, [], ◌∷◌, ◌++◌, Some, refl, sym, ap, ◌∙◌, subst}
use Rattle.std.specs.Prelude.{All}
use Rattle.std.proofs.lemmas.List.Elements.{All-pop, All-push}
use Rattle.spark_base.specs.declared.numbers.ExprNo.{ExprNo}
use Rattle.ada_tree.specs.declared.expressions.ExprNode.{ExprNode}
use Rattle.static_eval.specs.declared.judgements.Judgement.{Judgement}
use Rattle.static_meanings.specs.declared.meanings.Meaning.{Meaning}
use Rattle.ada_forms.specs.Forms.{Expr, expr_of}
use Rattle.static_eval.specs.Judged.{first_of, judged, reversed, said_of, Spine}

reversed_snoc : {A : Type 0} (xs : List A) (x : A) → reversed (xs ++ x ∷ []) ≡ x ∷ reversed xs
reversed_snoc [] x = refl
reversed_snoc (y ∷ xs) x = ap (λ ys. ys ++ y ∷ []) (reversed_snoc xs x)

spine_push : (exprs : List ExprNode) (e at first : ExprNo) (above pushed : List ExprNo) → Spine exprs e (reversed above) at
    → first_of (expr_of exprs at) ≡ Some (expr_of exprs first) → pushed ≡ above ++ at ∷ [] → Spine exprs e (reversed pushed) first
spine_push exprs e at first above pushed spine child is =
    subst (λ xs. Spine exprs e xs first) (sym (ap reversed is ∙ reversed_snoc above at)) (child, spine)

pub descended : (exprs : List ExprNode) (e at first : ExprNo) (above pushed : List ExprNo) → Spine exprs e (reversed above) at
    → All (λ (x : ExprNo). x.0 ≤ e.0) above → at.0 ≤ e.0 → first_of (expr_of exprs at) ≡ Some (expr_of exprs first) → first.0 < at.0 → pushed ≡ above ++ at ∷ []
    → Spine exprs e (reversed pushed) first × All (λ (x : ExprNo). x.0 ≤ e.0) pushed × (first.0 ≤ e.0)
descended exprs e at first above pushed spine all low child less is = (
  spine_push exprs e at first above pushed spine child is,
  subst (λ xs. All (λ (x : ExprNo). x.0 ≤ e.0) xs) (sym is) (All-push (λ (x : ExprNo). x.0 ≤ e.0) above at all low),
  omega arith,
)

pub popped_low : (e x : ExprNo) (above all : List ExprNo) → all ≡ above ++ x ∷ [] → All (λ (y : ExprNo). y.0 ≤ e.0) all
    → All (λ (y : ExprNo). y.0 ≤ e.0) above × (x.0 ≤ e.0)
popped_low e x above all is h = All-pop (λ (y : ExprNo). y.0 ≤ e.0) all above (Some x) is h

first_said : (means : Expr → Meaning) (t child : Expr) (said : Judgement) → first_of t ≡ Some child → said ≡ judged means child
    → said ≡ said_of means (first_of t)
first_said means t child said is h = h ∙ sym (ap (said_of means) is)

-- what is said of e, or of the first child of the next on the way up to it
abbrev pub IsSaid : (Expr → Meaning) → List ExprNode → ExprNo → List ExprNo → Judgement → Type 0
IsSaid means exprs e [] said = said ≡ judged means (expr_of exprs e)
IsSaid means exprs e (x ∷ xs) said = (said ≡ said_of means (first_of (expr_of exprs x))) × Spine exprs e xs x

pub said_at : (means : Expr → Meaning) (exprs : List ExprNode) (e c : ExprNo) (xs : List ExprNo) (said : Judgement)
    → Spine exprs e xs c → said ≡ judged means (expr_of exprs c) → IsSaid means exprs e xs said
said_at means exprs e c [] said spine h = h ∙ ap (λ (x : ExprNo). judged means (expr_of exprs x)) spine
said_at means exprs e c (x ∷ xs) said spine h = (first_said means (expr_of exprs x) (expr_of exprs c) said spine.0 h, spine.1)

pub said_pop : (means : Expr → Meaning) (exprs : List ExprNode) (e x : ExprNo) (above all : List ExprNo) (said : Judgement) → all ≡ above ++ x ∷ []
    → IsSaid means exprs e (reversed all) said → (said ≡ said_of means (first_of (expr_of exprs x))) × Spine exprs e (reversed above) x
said_pop means exprs e x above all said is h = subst (λ xs. IsSaid means exprs e xs said) (ap reversed is ∙ reversed_snoc above x) h

pub said_none : (means : Expr → Meaning) (exprs : List ExprNode) (e : ExprNo) (above : List ExprNo) (said : Judgement) → above ≡ []
    → IsSaid means exprs e (reversed above) said → said ≡ judged means (expr_of exprs e)
said_none means exprs e above said is h = subst (λ xs. IsSaid means exprs e (reversed xs) said) is h
