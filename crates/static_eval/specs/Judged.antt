-- What is said of an expression.
use Rattle.std.specs.Prelude.{◌≡◌, List, [], ◌∷◌, ◌++◌, Option, Some, None}
use Rattle.spark_base.specs.declared.numbers.ExprNo.{ExprNo}
use Rattle.ada_tree.specs.declared.expressions.ExprNode.{ExprNode}
use Rattle.static_eval.specs.declared.judgements.Judgement.{Judgement}
use Rattle.static_meanings.specs.declared.meanings.Meaning.{Meaning}
use Rattle.ada_forms.specs.AttributeWords.{property_of}
use Rattle.ada_forms.specs.Forms.{Expr, Exprs, Number, Identifier, Selected, Applied, Attribute, RangeAttribute, Qualified, Argument, NamedArgument, Parenthesized, Unary, Binary, InRange, InMark, Conditional, Positional, Named, Association, ValueChoice, RangeChoice, OthersChoice, Indication, Constrained, SubtypeRange, BoundsRange, AttributeRange, EndName, Absent, End, Then, expr_of}
use Rattle.static_eval.specs.Judgements as says
use Rattle.static_eval.specs.Judgements.{nothing_said, unstatic}

-- what is said of an expression, whatever its names mean
abbrev mutual
  pub judged : (Expr → Meaning) → Expr → Judgement
  judged means (Number e at n) = says.literal at n
  judged means (Identifier e at name) = says.identifier at (means (Identifier e at name))
  judged means (Selected e at name prefix) = says.selected at (means (Selected e at name prefix)) (judged means prefix)
  judged means (Applied e at prefix arguments) = says.applied at (means (Applied e at prefix arguments)) (judged means prefix ∷ judged_all means arguments)
  judged means (Attribute e at name prefix arguments) = says.attribute at (property_of name.written) (judged means prefix ∷ judged_all means arguments)
  judged means (RangeAttribute e at prefix arguments) = unstatic at (judged means prefix ∷ judged_all means arguments)
  judged means (Qualified e at mark value) = says.qualified at (judged means mark) (judged means value)
  judged means (Argument e at value) = says.passed at (judged means value)
  judged means (NamedArgument e at formal value) = says.named_argument at (judged means formal) (judged means value)
  judged means (Parenthesized e at inner) = says.passed at (judged means inner)
  judged means (Unary e at operator operand) = says.unary operator at (judged means operand)
  judged means (Binary e at operator place left right) = says.binary operator at place (judged means left) (judged means right)
  judged means (InRange e at is_not value low high) = says.in_range at is_not (judged means value) (judged means low) (judged means high)
  judged means (InMark e at is_not value mark) = says.in_mark at is_not (judged means value) (judged means mark)
  judged means (Conditional e at condition rest) = says.conditional at (judged means condition ∷ judged_all means rest)
  judged means (Positional e at has_others first rest) = unstatic at (judged means first ∷ judged_all means rest)
  judged means (Named e at first rest) = unstatic at (judged means first ∷ judged_all means rest)
  judged means (Association e at first rest) = unstatic at (judged means first ∷ judged_all means rest)
  judged means (ValueChoice e at value) = unstatic at (judged means value ∷ [])
  judged means (RangeChoice e at low high) = unstatic at (judged means low ∷ judged means high ∷ [])
  judged means (OthersChoice e at) = unstatic at []
  judged means (Indication e at mark) = unstatic at (judged means mark ∷ [])
  judged means (Constrained e at mark low high) = unstatic at (judged means mark ∷ judged means low ∷ judged means high ∷ [])
  judged means (SubtypeRange e at subtype) = unstatic at (judged means subtype ∷ [])
  judged means (BoundsRange e at low high) = unstatic at (judged means low ∷ judged means high ∷ [])
  judged means (AttributeRange e at attribute) = unstatic at (judged means attribute ∷ [])
  judged means (EndName e at name) = unstatic at []
  judged means (Absent e) = nothing_said

  pub judged_all : (Expr → Meaning) → Exprs → List Judgement
  judged_all means End = []
  judged_all means (Then t ts) = judged means t ∷ judged_all means ts

-- How the code goes over a tree: down the first children, and up again

abbrev pub first_of : Expr → Option Expr
first_of (Number e at n) = None
first_of (Identifier e at name) = None
first_of (Selected e at name prefix) = Some prefix
first_of (Applied e at prefix arguments) = Some prefix
first_of (Attribute e at name prefix arguments) = Some prefix
first_of (RangeAttribute e at prefix arguments) = Some prefix
first_of (Qualified e at mark value) = Some mark
first_of (Argument e at value) = Some value
first_of (NamedArgument e at formal value) = Some formal
first_of (Parenthesized e at inner) = Some inner
first_of (Unary e at operator operand) = Some operand
first_of (Binary e at operator place left right) = Some left
first_of (InRange e at is_not value low high) = Some value
first_of (InMark e at is_not value mark) = Some value
first_of (Conditional e at condition rest) = Some condition
first_of (Positional e at has_others first rest) = Some first
first_of (Named e at first rest) = Some first
first_of (Association e at first rest) = Some first
first_of (ValueChoice e at value) = Some value
first_of (RangeChoice e at low high) = Some low
first_of (OthersChoice e at) = None
first_of (Indication e at mark) = Some mark
first_of (Constrained e at mark low high) = Some mark
first_of (SubtypeRange e at subtype) = Some subtype
first_of (BoundsRange e at low high) = Some low
first_of (AttributeRange e at attribute) = Some attribute
first_of (EndName e at name) = None
first_of (Absent e) = None

abbrev pub said_of : (Expr → Meaning) → Option Expr → Judgement
said_of means None = nothing_said
said_of means (Some t) = judged means t

abbrev pub read_first : (ExprNo → Expr) → Option ExprNo → Option Expr
read_first tree None = None
read_first tree (Some c) = Some (tree c)

abbrev pub reversed : {A : Type 0} → List A → List A
reversed [] = []
reversed (x ∷ xs) = reversed xs ++ x ∷ []

-- numbers from the lowest up to e, each the first child of the next; c is the first child of the lowest
abbrev pub Spine : List ExprNode → ExprNo → List ExprNo → ExprNo → Type 0
Spine exprs e [] c = c ≡ e
Spine exprs e (x ∷ xs) c = (first_of (expr_of exprs x) ≡ Some (expr_of exprs c)) × Spine exprs e xs x
