-- A node's tree is made of its children's trees.
use Rattle.std.proofs.Common.{◌≡◌, ℕ, zero, suc, ◌<◌, Bool, true, false, nat_lt, cond, List, [], ◌∷◌, Option, Some, None, map, refl, ap, arith}
use Rattle.std.specs.Prelude.{slice_get}
use Rattle.std.proofs.lemmas.Bool.{and_parts, ltb-true}
use Rattle.spark_base.specs.declared.numbers.ExprNo.{ExprNo}
use Rattle.ada_tree.specs.declared.expressions.ExprNode.{ExprNode}
use Rattle.ada_forms.specs.Forms.{Expr, are_below, expr_of, expr_within, kind_tree, node_tree, sound}

-- two readings that agree below a number
map_same : (f g : ExprNo → Expr) (e : ExprNo) → ((c : ExprNo) → c.0 < e.0 → f c ≡ g c) → (es : List ExprNo) → are_below e es ≡ true → map f es ≡ map g es
map_same f g e same [] b = refl
map_same f g e same (c ∷ es) b =
    let p = and_parts (nat_lt c.0 e.0) (are_below e es) b in
    let h = same c (ltb-true c.0 e.0 p.0) in
    let t = map_same f g e same es p.1 in
    cc

node_by : (f g : ExprNo → Expr) (e : ExprNo) → ((c : ExprNo) → c.0 < e.0 → f c ≡ g c) → (node : ExprNode) (b : Bool) → are_below e node.exprs ≡ b
    → node_tree f e (cond b (Some node) None) ≡ node_tree g e (cond b (Some node) None)
node_by f g e same node true is = ap (kind_tree e node.span.«from» node.name node.kind) (map_same f g e same node.exprs is)
node_by f g e same node false is = refl

node_same : (f g : ExprNo → Expr) (e : ExprNo) → ((c : ExprNo) → c.0 < e.0 → f c ≡ g c) → (o : Option ExprNode) → node_tree f e (sound e o) ≡ node_tree g e (sound e o)
node_same f g e same None = refl
node_same f g e same (Some node) = node_by f g e same node (are_below e node.exprs) refl

stable : (exprs : List ExprNode) (n m : ℕ) (e : ExprNo) → e.0 < n → e.0 < m → expr_within exprs n e ≡ expr_within exprs m e
stable exprs zero m e h l = absurd (omega arith)
stable exprs (suc n) zero e h l = absurd (omega arith)
stable exprs (suc n) (suc m) e h l =
    node_same (expr_within exprs n) (expr_within exprs m) e (λ c b. stable exprs n m c (omega arith) (omega arith)) (slice_get exprs e.0)

pub expr_unfolds : (exprs : List ExprNode) (e : ExprNo) → expr_of exprs e ≡ node_tree (expr_of exprs) e (sound e (slice_get exprs e.0))
unfolding expr_of
expr_unfolds exprs e =
    node_same (expr_within exprs e.0) (expr_of exprs) e (λ c l. stable exprs e.0 (suc c.0) c l (omega arith)) (slice_get exprs e.0)
