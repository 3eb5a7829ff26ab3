-- A tree keeps the number of its node.
use Rattle.std.proofs.Common.{◌≡◌, Bool, true, false, cond, List, [], ◌∷◌, Option, Some, None, map, refl}
use Rattle.std.specs.Prelude.{slice_get}
use Rattle.spark_base.specs.declared.name.Name.{Name}
use Rattle.spark_base.specs.declared.numbers.ExprNo.{ExprNo}
use Rattle.spark_base.specs.declared.numbers.Pos.{Pos}
use Rattle.ada_tree.specs.declared.expressions.ExprKind.{ExprKind}
use Rattle.ada_tree.specs.declared.expressions.ExprKind.TheVariants as kinds
use Rattle.ada_tree.specs.declared.expressions.ExprNode.{ExprNode}
use Rattle.ada_forms.specs.declared.forms.BinaryOperator.TheVariants as between
use Rattle.ada_forms.specs.declared.forms.UnaryOperator.TheVariants as before
use Rattle.ada_forms.specs.Forms.{Expr, Exprs, Number, Identifier, Selected, Applied, Attribute, RangeAttribute, Qualified, Argument, NamedArgument, Parenthesized, Unary, Binary, InRange, InMark, Conditional, Positional, Named, Association, ValueChoice, RangeChoice, OthersChoice, Indication, Constrained, SubtypeRange, BoundsRange, AttributeRange, EndName, are_below, expr_of, expr_within, kind_tree, listed, named_none, named_one, named_some, node_tree, none, number_of, one, one_or_three, one_or_two, some, sound, three, two}

of_none : (e : ExprNo) (t : Expr) → number_of t ≡ e → (ts : List Expr) → number_of (none e t ts) ≡ e
of_none e t h [] = h
of_none e t h (a ∷ ts) = refl

of_one : (e : ExprNo) (f : Expr → Expr) → ((a : Expr) → number_of (f a) ≡ e) → (ts : List Expr) → number_of (one e f ts) ≡ e
of_one e f h [] = refl
of_one e f h (a ∷ []) = h a
of_one e f h (a ∷ b ∷ ts) = refl

of_two : (e : ExprNo) (f : Expr → Expr → Expr) → ((a b : Expr) → number_of (f a b) ≡ e) → (ts : List Expr) → number_of (two e f ts) ≡ e
of_two e f h [] = refl
of_two e f h (a ∷ []) = refl
of_two e f h (a ∷ b ∷ []) = h a b
of_two e f h (a ∷ b ∷ c ∷ ts) = refl

of_three : (e : ExprNo) (f : Expr → Expr → Expr → Expr) → ((a b c : Expr) → number_of (f a b c) ≡ e) → (ts : List Expr) → number_of (three e f ts) ≡ e
of_three e f h [] = refl
of_three e f h (a ∷ []) = refl
of_three e f h (a ∷ b ∷ []) = refl
of_three e f h (a ∷ b ∷ c ∷ []) = h a b c
of_three e f h (a ∷ b ∷ c ∷ d ∷ ts) = refl

of_some : (e : ExprNo) (f : Expr → Exprs → Expr) → ((a : Expr) (ts : Exprs) → number_of (f a ts) ≡ e) → (ts : List Expr) → number_of (some e f ts) ≡ e
of_some e f h [] = refl
of_some e f h (a ∷ ts) = h a (listed ts)

of_one_or_two : (e : ExprNo) (f : Expr → Expr) (g : Expr → Expr → Expr) → ((a : Expr) → number_of (f a) ≡ e) → ((a b : Expr) → number_of (g a b) ≡ e)
    → (ts : List Expr) → number_of (one_or_two e f g ts) ≡ e
of_one_or_two e f g h k [] = refl
of_one_or_two e f g h k (a ∷ []) = h a
of_one_or_two e f g h k (a ∷ b ∷ []) = k a b
of_one_or_two e f g h k (a ∷ b ∷ c ∷ ts) = refl

of_one_or_three : (e : ExprNo) (f : Expr → Expr) (g : Expr → Expr → Expr → Expr) → ((a : Expr) → number_of (f a) ≡ e) → ((a b c : Expr) → number_of (g a b c) ≡ e)
    → (ts : List Expr) → number_of (one_or_three e f g ts) ≡ e
of_one_or_three e f g h k [] = refl
of_one_or_three e f g h k (a ∷ []) = h a
of_one_or_three e f g h k (a ∷ b ∷ []) = refl
of_one_or_three e f g h k (a ∷ b ∷ c ∷ []) = k a b c
of_one_or_three e f g h k (a ∷ b ∷ c ∷ d ∷ ts) = refl

of_named_none : (e : ExprNo) (f : Name → Expr) → ((n : Name) → number_of (f n) ≡ e) → (name : Option Name) (ts : List Expr) → number_of (named_none e f name ts) ≡ e
of_named_none e f h None ts = refl
of_named_none e f h (Some name) ts = of_none e (f name) (h name) ts

of_named_one : (e : ExprNo) (f : Name → Expr → Expr) → ((n : Name) (a : Expr) → number_of (f n a) ≡ e) → (name : Option Name) (ts : List Expr) → number_of (named_one e f name ts) ≡ e
of_named_one e f h None ts = refl
of_named_one e f h (Some name) ts = of_one e (f name) (h name) ts

of_named_some : (e : ExprNo) (f : Name → Expr → Exprs → Expr) → ((n : Name) (a : Expr) (ts : Exprs) → number_of (f n a ts) ≡ e)
    → (name : Option Name) (ts : List Expr) → number_of (named_some e f name ts) ≡ e
of_named_some e f h None ts = refl
of_named_some e f h (Some name) ts = of_some e (f name) (h name) ts

of_kind : (e : ExprNo) (at : Pos) (name : Option Name) (kind : ExprKind) (ts : List Expr) → number_of (kind_tree e at name kind ts) ≡ e
of_kind e at name (kinds.Logical operator place) ts = of_two e (Binary e at (between.Logical operator) place) (λ a b. refl) ts
of_kind e at name (kinds.Relation operator place) ts = of_two e (Binary e at (between.Relation operator) place) (λ a b. refl) ts
of_kind e at name (kinds.RangeMembership is_not) ts = of_three e (InRange e at is_not) (λ a b c. refl) ts
of_kind e at name (kinds.MarkMembership is_not) ts = of_two e (InMark e at is_not) (λ a b. refl) ts
of_kind e at name (kinds.Sign operator) ts = of_one e (Unary e at (before.Sign operator)) (λ a. refl) ts
of_kind e at name (kinds.Sum operator place) ts = of_two e (Binary e at (between.Sum operator) place) (λ a b. refl) ts
of_kind e at name (kinds.Product operator place) ts = of_two e (Binary e at (between.Product operator) place) (λ a b. refl) ts
of_kind e at name (kinds.Power place) ts = of_two e (Binary e at between.Power place) (λ a b. refl) ts
of_kind e at name kinds.Absolute ts = of_one e (Unary e at before.Absolute) (λ a. refl) ts
of_kind e at name kinds.Not ts = of_one e (Unary e at before.Not) (λ a. refl) ts
of_kind e at name (kinds.Number n) ts = of_none e (Number e at n) refl ts
of_kind e at name kinds.Parenthesized ts = of_one e (Parenthesized e at) (λ a. refl) ts
of_kind e at name kinds.Conditional ts = of_some e (Conditional e at) (λ a ts. refl) ts
of_kind e at name (kinds.PositionalAggregate has_others) ts = of_some e (Positional e at has_others) (λ a ts. refl) ts
of_kind e at name kinds.NamedAggregate ts = of_some e (Named e at) (λ a ts. refl) ts
of_kind e at name kinds.Association ts = of_some e (Association e at) (λ a ts. refl) ts
of_kind e at name kinds.Identifier ts = of_named_none e (Identifier e at) (λ n. refl) name ts
of_kind e at name kinds.Selected ts = of_named_one e (Selected e at) (λ n a. refl) name ts
of_kind e at name kinds.Applied ts = of_some e (Applied e at) (λ a ts. refl) ts
of_kind e at name (kinds.Attribute has_arguments) ts = of_named_some e (Attribute e at) (λ n a ts. refl) name ts
of_kind e at name (kinds.RangeAttribute has_arguments) ts = of_some e (RangeAttribute e at) (λ a ts. refl) ts
of_kind e at name kinds.Qualified ts = of_two e (Qualified e at) (λ a b. refl) ts
of_kind e at name (kinds.Argument has_formal) ts = of_one_or_two e (Argument e at) (NamedArgument e at) (λ a. refl) (λ a b. refl) ts
of_kind e at name (kinds.SubtypeIndication has_range) ts = of_one_or_three e (Indication e at) (Constrained e at) (λ a. refl) (λ a b c. refl) ts
of_kind e at name kinds.SubtypeRange ts = of_one e (SubtypeRange e at) (λ a. refl) ts
of_kind e at name kinds.BoundsRange ts = of_two e (BoundsRange e at) (λ a b. refl) ts
of_kind e at name kinds.AttributeRange ts = of_one e (AttributeRange e at) (λ a. refl) ts
of_kind e at name kinds.ValueChoice ts = of_one e (ValueChoice e at) (λ a. refl) ts
of_kind e at name kinds.RangeChoice ts = of_two e (RangeChoice e at) (λ a b. refl) ts
of_kind e at name kinds.OthersChoice ts = of_none e (OthersChoice e at) refl ts
of_kind e at name kinds.EndName ts = of_named_none e (EndName e at) (λ n. refl) name ts

of_sound : (tree : ExprNo → Expr) (e : ExprNo) (node : ExprNode) (b : Bool) → number_of (node_tree tree e (cond b (Some node) None)) ≡ e
of_sound tree e node true = of_kind e node.span.«from» node.name node.kind (map tree node.exprs)
of_sound tree e node false = refl

of_node : (tree : ExprNo → Expr) (e : ExprNo) (o : Option ExprNode) → number_of (node_tree tree e (sound e o)) ≡ e
of_node tree e None = refl
of_node tree e (Some node) = of_sound tree e node (are_below e node.exprs)

pub numbered : (exprs : List ExprNode) (e : ExprNo) → number_of (expr_of exprs e) ≡ e
unfolding expr_of
numbered exprs e = of_node (expr_within exprs e.0) e (slice_get exprs e.0)
