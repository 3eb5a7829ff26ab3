-- The prefixes of selected names.
use Rattle.std.specs.Prelude.{◌≡◌, List, [], ◌∷◌, ◌++◌, Option, Some, None}
use Rattle.spark_base.specs.declared.numbers.ExprNo.{ExprNo}
use Rattle.ada_tree.specs.declared.expressions.ExprNode.{ExprNode}
use Rattle.ada_forms.specs.Forms.{Expr, Selected, expr_of}

abbrev pub prefix_of : Expr → Option Expr
prefix_of (Selected e at name prefix) = Some prefix
prefix_of _ = None

abbrev pub read_prefix : (ExprNo → Expr) → Option ExprNo → Option Expr
read_prefix tree None = None
read_prefix tree (Some c) = Some (tree c)

abbrev pub reversed : {A : Type 0} → List A → List A
reversed [] = []
reversed (x ∷ xs) = reversed xs ++ x ∷ []

-- numbers from the lowest up to e, each the prefix of the next; c is the prefix of the lowest
abbrev pub Spine : List ExprNode → ExprNo → List ExprNo → ExprNo → Type 0
Spine exprs e [] c = c ≡ e
Spine exprs e (x ∷ xs) c = (prefix_of (expr_of exprs x) ≡ Some (expr_of exprs c)) × Spine exprs e xs x
