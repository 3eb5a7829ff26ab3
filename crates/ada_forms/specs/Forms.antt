-- The trees that numbered expressions spell.
use Rattle.std.specs.Prelude.{ℕ, zero, suc, ◌<◌, Bool, nat_lt, if◌then◌else◌, List, [], ◌∷◌, All, map, slice_get, Option, Some, None}
use Rattle.std.specs.List.{list_all}
use Rattle.spark_base.specs.declared.name.Name.{Name}
use Rattle.spark_base.specs.declared.numbers.ExprNo.{ExprNo}
use Rattle.spark_base.specs.declared.numbers.Pos.{Pos}
use Rattle.ada_tree.specs.declared.expressions.ExprKind.{ExprKind}
use Rattle.ada_tree.specs.declared.expressions.ExprKind.TheVariants as kinds
use Rattle.ada_tree.specs.declared.expressions.ExprNode.{ExprNode}
use Rattle.ada_forms.specs.declared.forms.BinaryOperator.{BinaryOperator}
use Rattle.ada_forms.specs.declared.forms.BinaryOperator.TheVariants as between
use Rattle.ada_forms.specs.declared.forms.UnaryOperator.{UnaryOperator}
use Rattle.ada_forms.specs.declared.forms.UnaryOperator.TheVariants as before
use Rattle.ada_forms.specs.declared.forms.ExprForm.{ExprForm}
use Rattle.ada_forms.specs.declared.forms.ExprForm.TheVariants as forms

mutual
  -- an expression, or what stands in one place with expressions: its number, its place, and its parts
  pub data Expr : Type 0 where
    Number : ExprNo → Pos → ℕ → Expr
    -- names: the prefix, and what stands in the parentheses behind it
    Identifier : ExprNo → Pos → Name → Expr
    Selected : ExprNo → Pos → Name → Expr → Expr
    Applied : ExprNo → Pos → Expr → Exprs → Expr
    Attribute : ExprNo → Pos → Name → Expr → Exprs → Expr
    RangeAttribute : ExprNo → Pos → Expr → Exprs → Expr
    -- the mark and the value
    Qualified : ExprNo → Pos → Expr → Expr → Expr
    Argument : ExprNo → Pos → Expr → Expr
    -- the name of the formal, and the value
    NamedArgument : ExprNo → Pos → Expr → Expr → Expr
    Parenthesized : ExprNo → Pos → Expr → Expr
    Unary : ExprNo → Pos → UnaryOperator → Expr → Expr
    -- the operator with its place
    Binary : ExprNo → Pos → BinaryOperator → Pos → Expr → Expr → Expr
    -- the value, and the low bound and the high bound, or the mark; behind `not in` the other way round
    InRange : ExprNo → Pos → Bool → Expr → Expr → Expr → Expr
    InMark : ExprNo → Pos → Bool → Expr → Expr → Expr
    -- the first condition, and then values and conditions in turn, and the last value
    Conditional : ExprNo → Pos → Expr → Exprs → Expr
    -- the first value and the others, where the last may be that of `others`
    Positional : ExprNo → Pos → Bool → Expr → Exprs → Expr
    -- the first association and the others
    Named : ExprNo → Pos → Expr → Exprs → Expr
    -- the first choice and the others, and then the value
    Association : ExprNo → Pos → Expr → Exprs → Expr
    ValueChoice : ExprNo → Pos → Expr → Expr
    RangeChoice : ExprNo → Pos → Expr → Expr → Expr
    OthersChoice : ExprNo → Pos → Expr
    -- the mark of a subtype, and its bounds where it has some
    Indication : ExprNo → Pos → Expr → Expr
    Constrained : ExprNo → Pos → Expr → Expr → Expr → Expr
    -- a discrete range: a subtype, two bounds, or a Range attribute
    SubtypeRange : ExprNo → Pos → Expr → Expr
    BoundsRange : ExprNo → Pos → Expr → Expr → Expr
    AttributeRange : ExprNo → Pos → Expr → Expr
    EndName : ExprNo → Pos → Name → Expr
    -- a node of another shape, or none
    Absent : ExprNo → Expr

  pub data Exprs : Type 0 where
    End : Exprs
    Then : Expr → Exprs → Exprs

-- a tree keeps its number
abbrev pub number_of : Expr → ExprNo
number_of (Number e at n) = e
number_of (Identifier e at name) = e
number_of (Selected e at name prefix) = e
number_of (Applied e at prefix arguments) = e
number_of (Attribute e at name prefix arguments) = e
number_of (RangeAttribute e at prefix arguments) = e
number_of (Qualified e at mark value) = e
number_of (Argument e at value) = e
number_of (NamedArgument e at formal value) = e
number_of (Parenthesized e at inner) = e
number_of (Unary e at operator operand) = e
number_of (Binary e at operator place left right) = e
number_of (InRange e at is_not value low high) = e
number_of (InMark e at is_not value mark) = e
number_of (Conditional e at condition rest) = e
number_of (Positional e at has_others first rest) = e
number_of (Named e at first rest) = e
number_of (Association e at first rest) = e
number_of (ValueChoice e at value) = e
number_of (RangeChoice e at low high) = e
number_of (OthersChoice e at) = e
number_of (Indication e at mark) = e
number_of (Constrained e at mark low high) = e
number_of (SubtypeRange e at subtype) = e
number_of (BoundsRange e at low high) = e
number_of (AttributeRange e at attribute) = e
number_of (EndName e at name) = e
number_of (Absent e) = e

abbrev pub listed : List Expr → Exprs
listed [] = End
listed (t ∷ ts) = Then t (listed ts)

-- the tree of a form, from the trees of its children
abbrev pub form_tree : (ExprNo → Expr) → ExprNo → Pos → ExprForm → Expr
form_tree tree e at (forms.Number n) = Number e at n
form_tree tree e at (forms.Identifier name) = Identifier e at name.now
form_tree tree e at (forms.Selected name prefix) = Selected e at name.now (tree prefix)
form_tree tree e at (forms.Applied prefix arguments) = Applied e at (tree prefix) (listed (map tree arguments.now))
form_tree tree e at (forms.Attribute name prefix arguments) = Attribute e at name.now (tree prefix) (listed (map tree arguments.now))
form_tree tree e at (forms.RangeAttribute prefix arguments) = RangeAttribute e at (tree prefix) (listed (map tree arguments.now))
form_tree tree e at (forms.Qualified mark value) = Qualified e at (tree mark) (tree value)
form_tree tree e at (forms.Argument value) = Argument e at (tree value)
form_tree tree e at (forms.NamedArgument formal value) = NamedArgument e at (tree formal) (tree value)
form_tree tree e at (forms.Parenthesized inner) = Parenthesized e at (tree inner)
form_tree tree e at (forms.Unary operator operand) = Unary e at operator (tree operand)
form_tree tree e at (forms.Binary operator place left right) = Binary e at operator place (tree left) (tree right)
form_tree tree e at (forms.InRange is_not value low high) = InRange e at is_not (tree value) (tree low) (tree high)
form_tree tree e at (forms.InMark is_not value mark) = InMark e at is_not (tree value) (tree mark)
form_tree tree e at (forms.Conditional condition rest) = Conditional e at (tree condition) (listed (map tree rest.now))
form_tree tree e at (forms.Positional has_others first rest) = Positional e at has_others (tree first) (listed (map tree rest.now))
form_tree tree e at (forms.Named first rest) = Named e at (tree first) (listed (map tree rest.now))
form_tree tree e at (forms.Association first rest) = Association e at (tree first) (listed (map tree rest.now))
form_tree tree e at (forms.ValueChoice value) = ValueChoice e at (tree value)
form_tree tree e at (forms.RangeChoice low high) = RangeChoice e at (tree low) (tree high)
form_tree tree e at forms.OthersChoice = OthersChoice e at
form_tree tree e at (forms.Indication mark) = Indication e at (tree mark)
form_tree tree e at (forms.Constrained mark low high) = Constrained e at (tree mark) (tree low) (tree high)
form_tree tree e at (forms.SubtypeRange subtype) = SubtypeRange e at (tree subtype)
form_tree tree e at (forms.BoundsRange low high) = BoundsRange e at (tree low) (tree high)
form_tree tree e at (forms.AttributeRange attribute) = AttributeRange e at (tree attribute)
form_tree tree e at (forms.EndName name) = EndName e at name.now
form_tree tree e at forms.Absent = Absent e

-- Nodes, by the count of their children

abbrev pub none : ExprNo → Expr → List Expr → Expr
none e t [] = t
none e t _ = Absent e

abbrev pub one : ExprNo → (Expr → Expr) → List Expr → Expr
one e f (a ∷ []) = f a
one e f _ = Absent e

abbrev pub two : ExprNo → (Expr → Expr → Expr) → List Expr → Expr
two e f (a ∷ b ∷ []) = f a b
two e f _ = Absent e

abbrev pub three : ExprNo → (Expr → Expr → Expr → Expr) → List Expr → Expr
three e f (a ∷ b ∷ c ∷ []) = f a b c
three e f _ = Absent e

-- one or more: the first, and the others
abbrev pub some : ExprNo → (Expr → Exprs → Expr) → List Expr → Expr
some e f [] = Absent e
some e f (a ∷ rest) = f a (listed rest)

abbrev pub one_or_two : ExprNo → (Expr → Expr) → (Expr → Expr → Expr) → List Expr → Expr
one_or_two e f g (a ∷ []) = f a
one_or_two e f g (a ∷ b ∷ []) = g a b
one_or_two e f g _ = Absent e

abbrev pub one_or_three : ExprNo → (Expr → Expr) → (Expr → Expr → Expr → Expr) → List Expr → Expr
one_or_three e f g (a ∷ []) = f a
one_or_three e f g (a ∷ b ∷ c ∷ []) = g a b c
one_or_three e f g _ = Absent e

-- a node that has a name

abbrev pub named_none : ExprNo → (Name → Expr) → Option Name → List Expr → Expr
named_none e f None ts = Absent e
named_none e f (Some name) ts = none e (f name) ts

abbrev pub named_one : ExprNo → (Name → Expr → Expr) → Option Name → List Expr → Expr
named_one e f None ts = Absent e
named_one e f (Some name) ts = one e (f name) ts

abbrev pub named_some : ExprNo → (Name → Expr → Exprs → Expr) → Option Name → List Expr → Expr
named_some e f None ts = Absent e
named_some e f (Some name) ts = some e (f name) ts

abbrev pub kind_tree : ExprNo → Pos → Option Name → ExprKind → List Expr → Expr
kind_tree e at name (kinds.Logical operator place) ts = two e (Binary e at (between.Logical operator) place) ts
kind_tree e at name (kinds.Relation operator place) ts = two e (Binary e at (between.Relation operator) place) ts
kind_tree e at name (kinds.RangeMembership is_not) ts = three e (InRange e at is_not) ts
kind_tree e at name (kinds.MarkMembership is_not) ts = two e (InMark e at is_not) ts
kind_tree e at name (kinds.Sign operator) ts = one e (Unary e at (before.Sign operator)) ts
kind_tree e at name (kinds.Sum operator place) ts = two e (Binary e at (between.Sum operator) place) ts
kind_tree e at name (kinds.Product operator place) ts = two e (Binary e at (between.Product operator) place) ts
kind_tree e at name (kinds.Power place) ts = two e (Binary e at between.Power place) ts
kind_tree e at name kinds.Absolute ts = one e (Unary e at before.Absolute) ts
kind_tree e at name kinds.Not ts = one e (Unary e at before.Not) ts
kind_tree e at name (kinds.Number n) ts = none e (Number e at n) ts
kind_tree e at name kinds.Parenthesized ts = one e (Parenthesized e at) ts
kind_tree e at name kinds.Conditional ts = some e (Conditional e at) ts
kind_tree e at name (kinds.PositionalAggregate has_others) ts = some e (Positional e at has_others) ts
kind_tree e at name kinds.NamedAggregate ts = some e (Named e at) ts
kind_tree e at name kinds.Association ts = some e (Association e at) ts
kind_tree e at name kinds.Identifier ts = named_none e (Identifier e at) name ts
kind_tree e at name kinds.Selected ts = named_one e (Selected e at) name ts
kind_tree e at name kinds.Applied ts = some e (Applied e at) ts
kind_tree e at name (kinds.Attribute has_arguments) ts = named_some e (Attribute e at) name ts
kind_tree e at name (kinds.RangeAttribute has_arguments) ts = some e (RangeAttribute e at) ts
kind_tree e at name kinds.Qualified ts = two e (Qualified e at) ts
kind_tree e at name (kinds.Argument has_formal) ts = one_or_two e (Argument e at) (NamedArgument e at) ts
kind_tree e at name (kinds.SubtypeIndication has_range) ts = one_or_three e (Indication e at) (Constrained e at) ts
kind_tree e at name kinds.SubtypeRange ts = one e (SubtypeRange e at) ts
kind_tree e at name kinds.BoundsRange ts = two e (BoundsRange e at) ts
kind_tree e at name kinds.AttributeRange ts = one e (AttributeRange e at) ts
kind_tree e at name kinds.ValueChoice ts = one e (ValueChoice e at) ts
kind_tree e at name kinds.RangeChoice ts = two e (RangeChoice e at) ts
kind_tree e at name kinds.OthersChoice ts = none e (OthersChoice e at) ts
kind_tree e at name kinds.EndName ts = named_none e (EndName e at) name ts

-- the tree of a node, from the trees of its children
abbrev pub node_tree : (ExprNo → Expr) → ExprNo → Option ExprNode → Expr
node_tree tree e None = Absent e
node_tree tree e (Some node) = kind_tree e node.span.«from» node.name node.kind (map tree node.exprs)

-- whether children have smaller numbers
abbrev pub are_below : ExprNo → List ExprNo → Bool
are_below e es = list_all (λ (c : ExprNo). nat_lt c.0 e.0) es

-- a node one of whose children has no smaller number is as none
abbrev pub sound : ExprNo → Option ExprNode → Option ExprNode
sound e None = None
sound e (Some node) = if are_below e node.exprs then Some node else None

-- with at most this many levels
abbrev pub expr_within : List ExprNode → ℕ → ExprNo → Expr
expr_within exprs zero e = Absent e
expr_within exprs (suc n) e = node_tree (expr_within exprs n) e (sound e (slice_get exprs e.0))

-- the tree of an expression: a child has a smaller number than its node, so these levels are enough
unfoldable pub expr_of : List ExprNode → ExprNo → Expr
expr_of exprs e = expr_within exprs (suc e.0) e

-- the children of a form have smaller numbers
abbrev pub AreBelow : ℕ → ExprForm → Type 0
AreBelow n (forms.Number value) = Unit {0}
AreBelow n (forms.Identifier name) = Unit {0}
AreBelow n (forms.Selected name prefix) = prefix.0 < n
AreBelow n (forms.Applied prefix arguments) = (prefix.0 < n) × All (λ (c : ExprNo). c.0 < n) arguments.now
AreBelow n (forms.Attribute name prefix arguments) = (prefix.0 < n) × All (λ (c : ExprNo). c.0 < n) arguments.now
AreBelow n (forms.RangeAttribute prefix arguments) = (prefix.0 < n) × All (λ (c : ExprNo). c.0 < n) arguments.now
AreBelow n (forms.Qualified mark value) = (mark.0 < n) × (value.0 < n)
AreBelow n (forms.Argument value) = value.0 < n
AreBelow n (forms.NamedArgument formal value) = (formal.0 < n) × (value.0 < n)
AreBelow n (forms.Parenthesized inner) = inner.0 < n
AreBelow n (forms.Unary operator operand) = operand.0 < n
AreBelow n (forms.Binary operator place left right) = (left.0 < n) × (right.0 < n)
AreBelow n (forms.InRange is_not value low high) = (value.0 < n) × (low.0 < n) × (high.0 < n)
AreBelow n (forms.InMark is_not value mark) = (value.0 < n) × (mark.0 < n)
AreBelow n (forms.Conditional condition rest) = (condition.0 < n) × All (λ (c : ExprNo). c.0 < n) rest.now
AreBelow n (forms.Positional has_others first rest) = (first.0 < n) × All (λ (c : ExprNo). c.0 < n) rest.now
AreBelow n (forms.Named first rest) = (first.0 < n) × All (λ (c : ExprNo). c.0 < n) rest.now
AreBelow n (forms.Association first rest) = (first.0 < n) × All (λ (c : ExprNo). c.0 < n) rest.now
AreBelow n (forms.ValueChoice value) = value.0 < n
AreBelow n (forms.RangeChoice low high) = (low.0 < n) × (high.0 < n)
AreBelow n forms.OthersChoice = Unit {0}
AreBelow n (forms.Indication mark) = mark.0 < n
AreBelow n (forms.Constrained mark low high) = (mark.0 < n) × (low.0 < n) × (high.0 < n)
AreBelow n (forms.SubtypeRange subtype) = subtype.0 < n
AreBelow n (forms.BoundsRange low high) = (low.0 < n) × (high.0 < n)
AreBelow n (forms.AttributeRange attribute) = attribute.0 < n
AreBelow n (forms.EndName name) = Unit {0}
AreBelow n forms.Absent = Unit {0}
