-- What parts of the grammar are read as.
use Rattle.std.specs.Prelude.{ℕ, Bool, true, false, List, [], ◌∷◌, ◌++◌, Option, Some, None}
use Rattle.spark_base.specs.declared.numbers.Span.{Span}
use Rattle.ada_tree.specs.declared.statements.StmtKind.{StmtKind}
use Rattle.ada_tree.specs.declared.declarations.DeclKind.{DeclKind}
use Rattle.ada_tree.specs.declared.aspects.AspectKind.{AspectKind}
use Rattle.ada_tree.specs.declared.units.UnitKind.{UnitKind}
use Rattle.ada_tree.specs.declared.expressions.ExprKind.{ExprKind}
use Rattle.ada_tree.specs.declared.expressions.ExprKind.TheVariants as kinds
use Rattle.ada_tree.specs.declared.expressions.LogicalOperator.{LogicalOperator}
use Rattle.ada_tree.specs.declared.expressions.RelationalOperator.{RelationalOperator}
use Rattle.ada_tree.specs.declared.expressions.RelationalOperator.TheVariants as relational
use Rattle.ada_tree.specs.declared.expressions.AddingOperator.{AddingOperator}
use Rattle.ada_tree.specs.declared.expressions.AddingOperator.TheVariants as adding
use Rattle.ada_tree.specs.declared.expressions.MultiplyingOperator.{MultiplyingOperator}
use Rattle.ada_tree.specs.declared.expressions.MultiplyingOperator.TheVariants as multiplying
use Rattle.ada_tree.specs.declared.token.TokenKind.{TokenKind}
use Rattle.ada_tree.specs.declared.token.TokenKind.TheVariants as tokens
use Rattle.ada_tree.specs.declared.token.Mark.TheVariants as marks
use Rattle.ada_tree.specs.declared.words.Reserved.TheVariants as words
use Rattle.ada_grammar.specs.declared.nodes.Form.{Form}
use Rattle.ada_grammar.specs.declared.nodes.Form.TheVariants as forms
use Rattle.ada_grammar.specs.Lexemes.{Lexeme}

-- what a node is, of each type of node
pub data NodeKind : Type 0 where
  OfExpr : ExprKind → NodeKind
  OfStmt : StmtKind → NodeKind
  OfDecl : DeclKind → NodeKind
  OfAspect : AspectKind → NodeKind
  OfUnit : UnitKind → NodeKind

-- what a node has beside its children
pub record Head : Type 0 where
  pub kind : NodeKind
  pub span : Span
  pub name : Option (List ℕ)

-- a node without children, and a node with a further child at its end
pub data Tree : Type 0 where
  Root : Head → Tree
  With : Tree → Tree → Tree

abbrev pub with_all : Tree → List Tree → Tree
with_all t [] = t
with_all t (c ∷ cs) = with_all (With t c) cs

-- what was read of a node that is still open
pub record Children : Type 0 where
  pub exprs : List Tree
  pub stmts : List Tree
  pub decls : List Tree
  pub aspects : List Tree
  pub units : List Tree

abbrev pub none : Children
none = record { exprs = []; stmts = []; decls = []; aspects = []; units = [] }

-- a tree more, at the end of the list of its type
abbrev pub with_expr : Children → Tree → Children
with_expr d t = record d { exprs = d.exprs ++ t ∷ [] }

-- an expression alone, and two
abbrev pub one_expr : Tree → Children
one_expr t = with_expr none t

abbrev pub two_exprs : Tree → Tree → Children
two_exprs t u = with_expr (one_expr t) u

abbrev pub with_stmt : Children → Tree → Children
with_stmt d t = record d { stmts = d.stmts ++ t ∷ [] }

abbrev pub with_decl : Children → Tree → Children
with_decl d t = record d { decls = d.decls ++ t ∷ [] }

abbrev pub with_aspect : Children → Tree → Children
with_aspect d t = record d { aspects = d.aspects ++ t ∷ [] }

abbrev pub with_unit : Children → Tree → Children
with_unit d t = record d { units = d.units ++ t ∷ [] }

-- a tree, all that it was read from, and what it may be taken for; or what was read of a node that is still open
pub record Phrase : Type 0 where
  pub tree : Tree
  pub span : Span
  pub form : Form
  pub children : Children

-- what stands for a node that is not there
abbrev pub nowhere : Span
nowhere = record { file = record { 0 = 0 }; from = record { line = 0; col = 0 }; to = record { line = 0; col = 0 } }

abbrev pub nothing : Tree
nothing = Root (record { kind = OfExpr kinds.EndName; span = nowhere; name = None })

-- children of a node that is still open, and no node
abbrev pub gives : Children → Phrase
gives d = record { tree = nothing; span = nowhere; form = forms.Simple; children = d }

-- what was read and leaves no node
abbrev pub blank : Phrase
blank = gives none

-- a node over its children: first the expressions, then the statements, the declarations and the aspects
abbrev pub node_tree : NodeKind → Span → Option (List ℕ) → Children → Tree
node_tree kind span name d =
    with_all (Root (record { kind = kind; span = span; name = name })) (d.exprs ++ (d.stmts ++ (d.decls ++ d.aspects)))

-- a node with the name that a token has, and which stands where the token does
abbrev pub named_tree : NodeKind → Lexeme → Children → Tree
named_tree kind t own = node_tree kind t.token.span (Some t.text) own

-- a statement of its own children, behind what was read before it
abbrev pub statement : StmtKind → Span → Children → Children → Children
statement kind span own d = with_stmt d (node_tree (OfStmt kind) span None own)

abbrev pub declared : DeclKind → Lexeme → Children → Children → Children
declared kind t own d = with_decl d (named_tree (OfDecl kind) t own)

abbrev pub unnamed : DeclKind → Span → Children → Children → Children
unnamed kind span own d = with_decl d (node_tree (OfDecl kind) span None own)

-- a declaration for each name, in their order, each over the same children
abbrev pub declared_all : DeclKind → List Lexeme → Children → Children → Children
declared_all kind [] own d = d
declared_all kind (t ∷ ts) own d = declared_all kind ts own (declared kind t own d)

abbrev pub aspect : AspectKind → Span → Children → Children → Children
aspect kind span own d = with_aspect d (node_tree (OfAspect kind) span None own)

abbrev pub named_aspect : AspectKind → Lexeme → Children → Children → Children
named_aspect kind t own d = with_aspect d (named_tree (OfAspect kind) t own)

abbrev pub unit : UnitKind → Lexeme → Children → Children → Children
unit kind t own d = with_unit d (named_tree (OfUnit kind) t own)

-- the name behind an end
abbrev pub end_name : Lexeme → Tree
end_name t = Root (record { kind = OfExpr kinds.EndName; span = t.token.span; name = Some t.text })

-- from the beginning of the one to the end of the other
abbrev pub join : Span → Span → Span
join a b = record { file = a.file; from = a.from; to = b.to }

-- a node without a name over these, which stands where all of it stands
abbrev pub node : Form → ExprKind → Span → List Tree → Phrase
node form kind span children = record {
  tree = with_all (Root (record { kind = OfExpr kind; span = span; name = None })) children;
  span = span;
  form = form;
  children = none;
}

-- a node with the name that a token has, of which all stands at this span
abbrev pub named : Form → ExprKind → Lexeme → Span → List Tree → Phrase
named form kind t span children = record {
  tree = with_all (Root (record { kind = OfExpr kind; span = t.token.span; name = Some t.text })) children;
  span = span;
  form = form;
  children = none;
}

-- whether it is a simple expression: no relation, no membership and no chain of them
abbrev pub is_simple : Form → Bool
is_simple forms.Relation = false
is_simple f = true

-- whether it is words parted by points
abbrev pub is_mark : Form → Bool
is_mark forms.Identifier = true
is_mark forms.Mark = true
is_mark f = false

abbrev pub is_identifier : Form → Bool
is_identifier forms.Identifier = true
is_identifier f = false

-- whether it is a Range attribute without arguments
abbrev pub is_range : Form → Bool
is_range forms.RangeAttribute = true
is_range f = false

-- a selection from a mark is a mark
abbrev pub selected_form : Form → Form
selected_form forms.Identifier = forms.Mark
selected_form forms.Mark = forms.Mark
selected_form f = forms.Simple

abbrev pub relational_of : TokenKind → RelationalOperator
relational_of (tokens.Mark marks.NotEqual) = relational.NotEqual
relational_of (tokens.Mark marks.Less) = relational.Less
relational_of (tokens.Mark marks.AtMost) = relational.AtMost
relational_of (tokens.Mark marks.Greater) = relational.Greater
relational_of (tokens.Mark marks.AtLeast) = relational.AtLeast
relational_of k = relational.Equal

abbrev pub adding_of : TokenKind → AddingOperator
adding_of (tokens.Mark marks.Minus) = adding.Minus
adding_of k = adding.Plus

abbrev pub multiplying_of : TokenKind → MultiplyingOperator
multiplying_of (tokens.Mark marks.Slash) = multiplying.Divide
multiplying_of (tokens.Reserved words.Mod) = multiplying.Mod
multiplying_of (tokens.Reserved words.Rem) = multiplying.Rem
multiplying_of k = multiplying.Times

abbrev pub number_of : TokenKind → ℕ
number_of (tokens.Number n) = n
number_of k = 0

-- an operator between two operands
abbrev pub logical : LogicalOperator → Lexeme → Phrase → Phrase → Phrase
logical operator t a b = node forms.Relation (kinds.Logical operator t.token.span.from) (join a.span b.span) (a.tree ∷ b.tree ∷ [])

abbrev pub relation : Lexeme → Phrase → Phrase → Phrase
relation t a b =
    node forms.Relation (kinds.Relation (relational_of t.token.kind) t.token.span.from) (join a.span b.span) (a.tree ∷ b.tree ∷ [])

abbrev pub range_membership : Bool → Phrase → Phrase → Phrase → Phrase
range_membership is_not a low high =
    node forms.Relation (kinds.RangeMembership is_not) (join a.span high.span) (a.tree ∷ low.tree ∷ high.tree ∷ [])

abbrev pub mark_membership : Bool → Phrase → Phrase → Phrase
mark_membership is_not a mark = node forms.Relation (kinds.MarkMembership is_not) (join a.span mark.span) (a.tree ∷ mark.tree ∷ [])

abbrev pub sign : Lexeme → Phrase → Phrase
sign t a = node forms.Simple (kinds.Sign (adding_of t.token.kind)) (join t.token.span a.span) (a.tree ∷ [])

abbrev pub sum : Lexeme → Phrase → Phrase → Phrase
sum t a b = node forms.Simple (kinds.Sum (adding_of t.token.kind) t.token.span.from) (join a.span b.span) (a.tree ∷ b.tree ∷ [])

abbrev pub product : Lexeme → Phrase → Phrase → Phrase
product t a b =
    node forms.Simple (kinds.Product (multiplying_of t.token.kind) t.token.span.from) (join a.span b.span) (a.tree ∷ b.tree ∷ [])

abbrev pub power : Lexeme → Phrase → Phrase → Phrase
power t a b = node forms.Simple (kinds.Power t.token.span.from) (join a.span b.span) (a.tree ∷ b.tree ∷ [])

abbrev pub absolute : Lexeme → Phrase → Phrase
absolute t a = node forms.Simple kinds.Absolute (join t.token.span a.span) (a.tree ∷ [])

abbrev pub negation : Lexeme → Phrase → Phrase
negation t a = node forms.Simple kinds.Not (join t.token.span a.span) (a.tree ∷ [])

abbrev pub number : Lexeme → Phrase
number t = node forms.Simple (kinds.Number (number_of t.token.kind)) t.token.span []

abbrev pub parenthesized : Lexeme → Phrase → Lexeme → Phrase
parenthesized opening a close = node forms.Simple kinds.Parenthesized (join opening.token.span close.token.span) (a.tree ∷ [])

-- the conditions and values, from the word if to the end of the last value
abbrev pub conditional : Lexeme → List Tree → Phrase → Phrase
conditional t arms last = node forms.Simple kinds.Conditional (join t.token.span last.span) (arms ++ last.tree ∷ [])

abbrev pub positional : Bool → Lexeme → List Tree → Lexeme → Phrase
positional has_others opening items close =
    node forms.Simple (kinds.PositionalAggregate has_others) (join opening.token.span close.token.span) items

abbrev pub named_aggregate : Lexeme → List Tree → Lexeme → Phrase
named_aggregate opening associations close = node forms.Simple kinds.NamedAggregate (join opening.token.span close.token.span) associations

-- the choices, from the first to the end of the value
abbrev pub association : Span → List Tree → Phrase → Phrase
association first choices value = node forms.Simple kinds.Association (join first value.span) (choices ++ value.tree ∷ [])

abbrev pub value_choice : Phrase → Phrase
value_choice a = node forms.Simple kinds.ValueChoice a.span (a.tree ∷ [])

abbrev pub range_choice : Phrase → Phrase → Phrase
range_choice low high = node forms.Simple kinds.RangeChoice (join low.span high.span) (low.tree ∷ high.tree ∷ [])

abbrev pub others_choice : Lexeme → Phrase
others_choice t = node forms.Simple kinds.OthersChoice t.token.span []

abbrev pub identifier : Lexeme → Phrase
identifier t = named forms.Identifier kinds.Identifier t t.token.span []

abbrev pub selected : Phrase → Lexeme → Phrase
selected a t = named (selected_form a.form) kinds.Selected t (join a.span t.token.span) (a.tree ∷ [])

-- the prefix, which begins at this span, and the arguments
abbrev pub applied : Span → List Tree → Lexeme → Phrase
applied first children close = node forms.Simple kinds.Applied (join first close.token.span) children

-- an attribute without arguments, of a word or Range
abbrev pub attribute : TokenKind → Phrase → Lexeme → Phrase
attribute tokens.Word a t = named forms.Simple (kinds.Attribute false) t (join a.span t.token.span) (a.tree ∷ [])
attribute k a t = node forms.RangeAttribute (kinds.RangeAttribute false) (join a.span t.token.span) (a.tree ∷ [])

-- the same with arguments: the prefix, which begins at this span, and these
abbrev pub attribute_of : TokenKind → Span → Lexeme → List Tree → Lexeme → Phrase
attribute_of tokens.Word first t children close = named forms.Simple (kinds.Attribute true) t (join first close.token.span) children
attribute_of k first t children close = node forms.Simple (kinds.RangeAttribute true) (join first close.token.span) children

abbrev pub qualified : Phrase → Phrase → Phrase
qualified a b = node forms.Simple kinds.Qualified (join a.span b.span) (a.tree ∷ b.tree ∷ [])

abbrev pub argument : Phrase → Phrase
argument a = node forms.Simple (kinds.Argument false) a.span (a.tree ∷ [])

abbrev pub named_argument : Phrase → Phrase → Phrase
named_argument formal a = node forms.Simple (kinds.Argument true) (join formal.span a.span) (formal.tree ∷ a.tree ∷ [])

abbrev pub indication : Phrase → Phrase
indication mark = node forms.Simple (kinds.SubtypeIndication false) mark.span (mark.tree ∷ [])

abbrev pub range_indication : Phrase → Phrase → Phrase → Phrase
range_indication mark low high =
    node forms.Simple (kinds.SubtypeIndication true) (join mark.span high.span) (mark.tree ∷ low.tree ∷ high.tree ∷ [])

abbrev pub subtype_range : Phrase → Phrase
subtype_range a = node forms.Simple kinds.SubtypeRange a.span (a.tree ∷ [])

abbrev pub bounds_range : Phrase → Phrase → Phrase
bounds_range low high = node forms.Simple kinds.BoundsRange (join low.span high.span) (low.tree ∷ high.tree ∷ [])

abbrev pub attribute_range : Phrase → Phrase
attribute_range a = node forms.Simple kinds.AttributeRange a.span (a.tree ∷ [])
