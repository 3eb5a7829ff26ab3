-- What expressions are by their forms alone, in whatever context.
use Rattle.std.specs.Prelude.{ℕ, Bool, true, false, List, [], ◌∷◌, ◌++◌, length, Option, Some, None}
use Rattle.spark_base.specs.declared.name.Name.{Name}
use Rattle.spark_base.specs.declared.numbers.Pos.{Pos}
use Rattle.ada_tree.specs.declared.expressions.AddingOperator.TheVariants as signs
use Rattle.ada_tree.specs.declared.expressions.RelationalOperator.TheVariants as relations
use Rattle.ada_forms.specs.declared.forms.BinaryOperator.{BinaryOperator}
use Rattle.ada_forms.specs.declared.forms.BinaryOperator.TheVariants as between
use Rattle.ada_forms.specs.declared.forms.UnaryOperator.{UnaryOperator}
use Rattle.ada_forms.specs.declared.forms.UnaryOperator.TheVariants as before
use Rattle.ada_forms.specs.Forms.{Expr, Exprs, Number, Identifier, Selected, Applied, Attribute, RangeAttribute, Qualified, Argument, NamedArgument, Parenthesized, Unary, Binary, InRange, InMark, Conditional, Positional, Named, Association, ValueChoice, RangeChoice, OthersChoice, Indication, Constrained, SubtypeRange, BoundsRange, AttributeRange, EndName, Absent, End, Then}
use Rattle.expr_outlines.specs.declared.edges.Edges.{Edges}
use Rattle.name_findings.specs.declared.findings.Mention.{Mention}
use Rattle.name_findings.specs.declared.findings.Spelling.{Spelling}
use Rattle.name_findings.specs.declared.findings.Spelling.TheVariants as spelled

-- where nothing stands
abbrev pub nowhere : Pos
nowhere = record { line = 1; col = 1 }

-- where the first token stands: of a name where its first word does
abbrev pub begins : Expr → Pos
begins (Number e at n) = at
begins (Identifier e at name) = at
begins (Selected e at name prefix) = begins prefix
begins (Applied e at prefix arguments) = begins prefix
begins (Attribute e at name prefix arguments) = begins prefix
begins (RangeAttribute e at prefix arguments) = begins prefix
begins (Qualified e at mark value) = begins mark
begins (Argument e at value) = begins value
begins (NamedArgument e at formal value) = begins value
begins (Parenthesized e at inner) = at
begins (Unary e at operator operand) = at
begins (Binary e at operator place left right) = begins left
begins (InRange e at is_not value low high) = begins value
begins (InMark e at is_not value mark) = begins value
begins (Conditional e at condition rest) = at
begins (Positional e at has_others first rest) = at
begins (Named e at first rest) = at
begins (Association e at first rest) = begins first
begins (ValueChoice e at value) = begins value
begins (RangeChoice e at low high) = begins low
begins (OthersChoice e at) = at
begins (Indication e at mark) = begins mark
begins (Constrained e at mark low high) = begins mark
begins (SubtypeRange e at subtype) = begins subtype
begins (BoundsRange e at low high) = begins low
begins (AttributeRange e at attribute) = begins attribute
begins (EndName e at name) = at
begins (Absent e) = nowhere

abbrev pub sign_text : UnaryOperator → Spelling
sign_text (before.Sign signs.Plus) = spelled.Plus
sign_text (before.Sign signs.Minus) = spelled.Minus
sign_text before.Absolute = spelled.Absolute
sign_text before.Not = spelled.Not

-- the first token
abbrev pub first_token : Expr → Spelling
first_token (Number e at n) = spelled.Numeral n
first_token (Identifier e at name) = spelled.Word e
first_token (Selected e at name prefix) = first_token prefix
first_token (Applied e at prefix arguments) = first_token prefix
first_token (Attribute e at name prefix arguments) = first_token prefix
first_token (RangeAttribute e at prefix arguments) = first_token prefix
first_token (Qualified e at mark value) = first_token mark
first_token (Argument e at value) = first_token value
first_token (NamedArgument e at formal value) = first_token value
first_token (Unary e at operator operand) = sign_text operator
first_token (Binary e at operator place left right) = first_token left
first_token (InRange e at is_not value low high) = first_token value
first_token (InMark e at is_not value mark) = first_token value
first_token _ = spelled.Parenthesis

-- the word that ends a name, aside from what stands in parentheses
abbrev pub ending : Expr → Option Mention
ending (Identifier e at name) = Some (record { at = at; expr = e })
ending (Selected e at name prefix) = Some (record { at = at; expr = e })
ending (Attribute e at name prefix arguments) = Some (record { at = at; expr = e })
ending (Applied e at prefix arguments) = ending prefix
ending (Qualified e at mark value) = ending mark
ending (Argument e at value) = ending value
ending (NamedArgument e at formal value) = ending value
ending _ = None

-- where the first token of an expression stands, and the word that ends it
abbrev pub edges : Expr → Edges
edges t = record { begins = begins t; ending = ending t }

-- those of a node, over those of the part with which it begins

abbrev pub beginning : Expr → Option Expr
beginning (Selected e at name prefix) = Some prefix
beginning (Applied e at prefix arguments) = Some prefix
beginning (Attribute e at name prefix arguments) = Some prefix
beginning (RangeAttribute e at prefix arguments) = Some prefix
beginning (Qualified e at mark value) = Some mark
beginning (Argument e at value) = Some value
beginning (NamedArgument e at formal value) = Some value
beginning (Binary e at operator place left right) = Some left
beginning (InRange e at is_not value low high) = Some value
beginning (InMark e at is_not value mark) = Some value
beginning (Association e at first rest) = Some first
beginning (ValueChoice e at value) = Some value
beginning (RangeChoice e at low high) = Some low
beginning (Indication e at mark) = Some mark
beginning (Constrained e at mark low high) = Some mark
beginning (SubtypeRange e at subtype) = Some subtype
beginning (BoundsRange e at low high) = Some low
beginning (AttributeRange e at attribute) = Some attribute
beginning _ = None

abbrev pub edges_in : Option Expr → Edges
edges_in None = record { begins = nowhere; ending = None }
edges_in (Some t) = edges t

-- what an argument passes
abbrev pub passed : Expr → Expr
passed (Argument e at value) = value
passed (NamedArgument e at formal value) = value
passed t = t

abbrev pub name_of : Expr → Option Name
name_of (Identifier e at name) = Some name
name_of _ = None

-- the name of the formal that an argument has
abbrev pub formal_name : Expr → Option Name
formal_name (NamedArgument e at formal value) = name_of formal
formal_name _ = None

abbrev pub is_named_argument : Expr → Bool
is_named_argument (NamedArgument e at formal value) = true
is_named_argument _ = false

abbrev pub is_name : Expr → Bool
is_name (Identifier e at name) = true
is_name (Selected e at name prefix) = true
is_name (Applied e at prefix arguments) = true
is_name (Attribute e at name prefix arguments) = true
is_name (RangeAttribute e at prefix arguments) = true
is_name (Qualified e at mark value) = true
is_name _ = false

-- words and points alone
abbrev pub is_plain_name : Expr → Bool
is_plain_name (Identifier e at name) = true
is_plain_name (Selected e at name prefix) = is_plain_name prefix
is_plain_name _ = false

-- an aggregate, within further parentheses or not
abbrev pub is_aggregate : Expr → Bool
is_aggregate (Positional e at has_others first rest) = true
is_aggregate (Named e at first rest) = true
is_aggregate (Parenthesized e at inner) = is_aggregate inner
is_aggregate (Argument e at value) = is_aggregate value
is_aggregate (NamedArgument e at formal value) = is_aggregate value
is_aggregate _ = false

abbrev pub is_parenthesized : Expr → Bool
is_parenthesized (Parenthesized e at inner) = true
is_parenthesized _ = false

abbrev pub is_equality : BinaryOperator → Bool
is_equality (between.Relation relations.Equal) = true
is_equality (between.Relation relations.NotEqual) = true
is_equality _ = false

-- Lists

abbrev pub trees : Exprs → List Expr
trees End = []
trees (Then t ts) = t ∷ trees ts

abbrev pub ends : Exprs → Bool
ends End = true
ends (Then t ts) = false

abbrev pub count_of : Exprs → ℕ
count_of ts = length (trees ts)

-- all but the last, and the last
abbrev pub choices_in : Expr → Exprs → List Expr
choices_in first End = []
choices_in first (Then t ts) = first ∷ choices_in t ts

abbrev pub value_in : Expr → Exprs → Expr
value_in first End = first
value_in first (Then t ts) = value_in t ts

abbrev pub choices_of : Expr → List Expr
choices_of (Association e at first rest) = choices_in first rest
choices_of _ = []

abbrev pub all_choices : List Expr → List Expr
all_choices [] = []
all_choices (t ∷ ts) = choices_of t ++ all_choices ts

-- the one argument, where it has no name
abbrev pub only_argument : List Expr → Option Expr
only_argument (Argument e at value ∷ []) = Some value
only_argument _ = None
