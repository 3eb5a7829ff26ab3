-- The parts of the grammar, and the words in which its rules are written.
use Rattle.std.specs.Prelude.{ℕ, zero, suc, Bool, true, false, List, if◌then◌else◌}
use Rattle.spark_base.specs.declared.numbers.Span.{Span}
use Rattle.ada_tree.specs.declared.expressions.LogicalOperator.{LogicalOperator}
use Rattle.ada_tree.specs.declared.token.Mark.{Mark}
use Rattle.ada_tree.specs.declared.token.Mark.TheVariants as marks
use Rattle.ada_tree.specs.declared.words.Reserved.{Reserved}
use Rattle.ada_tree.specs.declared.words.Reserved.TheVariants as words
use Rattle.ada_grammar.specs.declared.tokens.Class.{Class}
use Rattle.ada_grammar.specs.declared.tokens.Class.TheVariants as classes
use Rattle.ada_grammar.specs.Lexemes.{Lexeme}
use Rattle.ada_tree.specs.declared.aspects.AspectKind.{AspectKind}
use Rattle.ada_tree.specs.declared.aspects.AspectKind.TheVariants as aspects
use Rattle.ada_tree.specs.declared.declarations.DeclKind.{DeclKind}
use Rattle.ada_tree.specs.declared.declarations.Head.{Head}
use Rattle.ada_tree.specs.declared.statements.StmtKind.{StmtKind}
use Rattle.ada_tree.specs.declared.units.UnitKind.{UnitKind}
use Rattle.ada_tree.specs.declared.forms.Definition.{Definition}
use Rattle.ada_tree.specs.declared.forms.Listing.{Listing}
use Rattle.ada_tree.specs.declared.forms.Naming.{Naming}
use Rattle.ada_tree.specs.declared.forms.LocalForm.{LocalForm}
use Rattle.ada_tree.specs.declared.forms.DeclarationForm.{DeclarationForm}
use Rattle.ada_tree.specs.declared.forms.OperationForm.{OperationForm}
use Rattle.ada_tree.specs.declared.forms.StatementForm.{StatementForm}
use Rattle.ada_tree.specs.declared.forms.CompoundForm.{CompoundForm}
use Rattle.ada_tree.specs.declared.forms.FileForm.{FileForm}
use Rattle.ada_tree.specs.declared.forms.Region.{Region}
use Rattle.ada_tree.specs.declared.identifiers.AspectName.{AspectName}
use Rattle.ada_grammar.specs.Phrases as phrases
use Rattle.ada_grammar.specs.Phrases.{Children, Phrase, Tree}

-- a part of the grammar; some go on from what was read before them
pub data Part : Type 0 where
  Expr : Part
  Continued : Phrase → Part
  RestOfExpr : Phrase → Part
  BehindAnd : Phrase → Lexeme → Part
  BehindOr : Phrase → Lexeme → Part
  Opened : LogicalOperator → Phrase → Lexeme → Part
  Begun : LogicalOperator → Phrase → Lexeme → Part
  Chain : LogicalOperator → Phrase → Part
  Rel : Part
  RestOfRel : Phrase → Part
  Membership : Bool → Phrase → Part
  Simple : Part
  Signed : Part
  Sums : Phrase → Part
  Term : Part
  Products : Phrase → Part
  Factor : Part
  Powered : Part
  Primary : Part
  Parens : Lexeme → Part
  Condition : Lexeme → Part
  Arms : Lexeme → List Tree → Part
  InParens : Lexeme → Part
  NamedFrom : Lexeme → Phrase → Part
  BehindExpr : Lexeme → Phrase → Part
  Items : Lexeme → List Tree → Part
  LastItem : Lexeme → List Tree → Part
  Association : Part
  Choices : Span → List Tree → Part
  Associations : Lexeme → List Tree → Part
  Choice : Part
  Name : Part
  Suffixes : Bool → Phrase → Part
  MayOpen : Bool → Phrase → Part
  BehindTick : Phrase → Part
  BehindAttribute : Phrase → Lexeme → Part
  ValuesFrom : Phrase → Lexeme → Part
  Values : Span → Lexeme → List Tree → Part
  ArgumentsFrom : Phrase → Part
  Arguments : Span → List Tree → Part
  Argument : Part
  Drange : Part
  SubtypeRange : Phrase → Part
  UnitName : Part
  Points : Phrase → Part
  Indication : Part
  IndicationFrom : Phrase → Part
  Balanced : ℕ → Part
  SkippedTokens : Part
  Pragma : Part
  Aspects : Children → Part
  OptionalAspects : Children → Part
  BehindWith : Children → Part
  MoreAspects : Children → Part
  Aspect : Children → Part
  AspectOf : AspectName → Lexeme → Children → Part
  Defined : AspectKind → Definition → Lexeme → Children → Part
  Atomic : Lexeme → Children → Part
  SkippedAspect : AspectKind → AspectKind → Lexeme → Children → Part
  DefinitionOf : Definition → Children → Part
  NullOrItems : Children → Part
  ItemsFrom : Span → Lexeme → Children → Part
  MoreItems : Span → Children → Children → Part
  GlobalDefinition : Children → Part
  InGlobal : Span → Lexeme → Children → Part
  ModesFrom : Lexeme → Children → Part
  MoreModes : Children → Part
  DependsDefinition : Children → Part
  Elements : Listing → Children → Part
  MoreElements : Listing → Children → Part
  Element : Listing → Children → Part
  Dependency : Children → Part
  Refinement : Children → Part
  Initialization : Children → Part
  RefinedDefinition : Children → Part
  InitializesDefinition : Children → Part
  PartOf : Children → Part
  StatesDefinition : Children → Part
  InStates : Children → Part
  MoreStates : Children → Part
  State : Children → Part
  StateWithOptions : Children → Part
  Closing : DeclKind → List Lexeme → Children → Children → Part
  Names : Naming → List Lexeme → Children → Part
  BehindNames : Naming → List Lexeme → Children → Part
  Object : List Lexeme → Children → Part
  ObjectFrom : Bool → List Lexeme → Children → Part
  Component : List Lexeme → Children → Part
  Formal : List Lexeme → Children → Part
  FormalMark : DeclKind → List Lexeme → Children → Part
  LocalDeclarations : Children → Part
  LocalDeclaration : LocalForm → Lexeme → Children → Part
  UnitNames : DeclKind → Span → Children → Part
  MoreUnitNames : DeclKind → Span → Children → Children → Part
  TypeDefinition : Lexeme → Children → Part
  Literals : Lexeme → Children → Part
  MoreLiterals : Lexeme → Children → Children → Part
  RangeType : Lexeme → Children → Part
  ArrayType : Lexeme → Children → Part
  Components : Lexeme → Children → Part
  MoreComponents : Lexeme → Children → Children → Part
  Statements : Children → Part
  MoreStatements : Span → Children → Children → Part
  Statement : StatementForm → Lexeme → Children → Part
  NamedStatement : Lexeme → Children → Part
  BehindName : Span → Children → Children → Part
  Labelled : CompoundForm → Lexeme → Children → Children → Part
  If : Lexeme → Children → Part
  MoreArms : Span → Children → Children → Part
  EndIf : StmtKind → Span → Children → Children → Part
  Case : Lexeme → Children → Part
  MoreAlternatives : Span → Children → Children → Part
  Alternative : Span → Children → Part
  MoreChoices : Span → Children → Children → Part
  While : Bool → Lexeme → Children → Children → Part
  For : Bool → Lexeme → Children → Children → Part
  ForRange : DeclKind → Lexeme → StmtKind → Span → Children → Children → Part
  LoopBody : StmtKind → Span → Children → Children → Part
  Declare : Bool → Lexeme → Children → Children → Part
  BlockBody : StmtKind → Span → Children → Children → Part
  EndOfStatement : StmtKind → Span → Children → Children → Part
  Exit : Lexeme → Children → Part
  Return : Lexeme → Children → Part
  ProperBody : Children → Part
  EndOfDeclaration : DeclKind → Lexeme → Children → Children → Part
  EndOfUnit : UnitKind → Lexeme → Children → Children → Part
  Formals : Children → Part
  MoreFormals : Children → Part
  Procedure : Region → Children → Part
  Function : Region → Children → Part
  FunctionResult : Region → Head → Lexeme → Children → Children → Part
  BehindHead : Region → Head → Lexeme → Children → Children → Part
  NullOrValue : Head → Lexeme → Children → Children → Part
  AnyCompletion : Head → Lexeme → Children → Children → Part
  ValueOrBody : Head → Lexeme → Children → Children → Part
  Value : Head → Lexeme → Children → Children → Part
  SubprogramBody : Head → Lexeme → Children → Children → Part
  Task : Children → Part
  TaskNamed : Bool → Children → Part
  TaskDefinition : DeclKind → Lexeme → Children → Children → Part
  TaskInBody : Children → Part
  TaskBody : Children → Part
  Protected : Children → Part
  ProtectedNamed : Bool → Children → Part
  Operations : Children → Part
  PrivateItems : Children → Part
  Operation : OperationForm → Lexeme → Children → Part
  Entry : Children → Part
  ProtectedInBody : Children → Part
  ProtectedBody : Children → Part
  OperationBodies : Children → Part
  OperationBody : OperationForm → Children → Part
  EntryBody : Children → Part
  Barrier : Bool → Lexeme → Children → Children → Part
  Declarations : Region → Children → Part
  Declaration : Region → DeclarationForm → Lexeme → Children → Part
  TaskIn : Region → Children → Part
  ProtectedIn : Region → Children → Part
  MainUnit : Children → Children → Part
  PackageUnit : Children → Children → Part
  SpecUnit : Children → Children → Part
  BodyUnit : Children → Children → Part
  File : Part
  InFile : Bool → Children → Children → Part
  FileItem : FileForm → Lexeme → Bool → Children → Children → Part

-- what a part is made of
pub data Body : Type 0 where
  Never : Body
  Gives : Phrase → Body
  Take : Class → (Lexeme → Body) → Body
  Call : Part → (Phrase → Body) → Body
  Rest : Part → Body
  Or : Body → Body → Body
  When : Bool → Body → Body → Body

abbrev pub word : Reserved → Class
word w = classes.Reserved w

abbrev pub mark : Mark → Class
mark m = classes.Mark m

-- whether no further parentheses are open, and one less
abbrev pub is_none : ℕ → Bool
is_none zero = true
is_none (suc n) = false

abbrev pub one_less : ℕ → ℕ
one_less zero = 0
one_less (suc n) = n

-- one of two bodies
infixr 10 ◌or◌
abbrev pub ◌or◌ : Body → Body → Body
b or c = Or b c

-- a reserved word, and a sign, of which nothing is kept
abbrev pub keyword : Reserved → Body → Body
keyword w b = Take (word w) (λ t. b)

abbrev pub sign : Mark → Body → Body
sign m b = Take (mark m) (λ t. b)

-- an identifier
abbrev pub identifier : (Lexeme → Body) → Body
identifier b = Take classes.Word b

-- a name, behind its first identifier
abbrev pub name_from : Lexeme → (Phrase → Body) → Body
name_from t b = Call (Suffixes true (phrases.identifier t)) b

-- [formals]: whether they are there, and they
abbrev pub optional_formals : (Bool → Children → Body) → Body
optional_formals b = sign marks.Open (Call (Formals phrases.none) (λ x. b true x.children)) or b false phrases.none

-- the end of a part that leaves these to an open node
abbrev pub leaves : Children → Body
leaves d = Gives (phrases.gives d)

-- the same behind a semicolon
abbrev pub semicolon : Children → Body
semicolon d = sign marks.Semicolon (leaves d)

-- the word null as a list of items, before these
abbrev pub null_aspect : Children → Body
null_aspect d = Take (word words.Null) (λ t. leaves (phrases.aspect aspects.Null t.token.span phrases.none d))
