-- The rules of the grammar.
use Rattle.std.specs.Prelude.{◌+◌, true, false, [], ◌∷◌, ◌++◌}
use Rattle.ada_tree.specs.declared.expressions.LogicalOperator.TheVariants as logical
use Rattle.ada_tree.specs.declared.token.Mark.TheVariants as marks
use Rattle.ada_tree.specs.declared.words.Reserved.TheVariants as words
use Rattle.ada_grammar.specs.declared.tokens.Class.TheVariants as classes
use Rattle.ada_tree.specs.declared.aspects.AspectKind.TheVariants as aspects
use Rattle.ada_tree.specs.declared.declarations.DeclKind.TheVariants as decls
use Rattle.ada_tree.specs.declared.declarations.Head.TheVariants as heads
use Rattle.ada_tree.specs.declared.statements.StmtKind.TheVariants as stmts
use Rattle.ada_tree.specs.declared.units.UnitKind.TheVariants as units
use Rattle.ada_tree.specs.declared.forms.Definition.TheVariants as definitions
use Rattle.ada_tree.specs.declared.forms.Listing.TheVariants as listings
use Rattle.ada_tree.specs.declared.forms.Naming.TheVariants as naming
use Rattle.ada_tree.specs.declared.forms.LocalForm.TheVariants as locals
use Rattle.ada_tree.specs.declared.forms.DeclarationForm.TheVariants as declarations
use Rattle.ada_tree.specs.declared.forms.OperationForm.TheVariants as operations
use Rattle.ada_tree.specs.declared.forms.StatementForm.TheVariants as statements
use Rattle.ada_tree.specs.declared.forms.CompoundForm.TheVariants as compounds
use Rattle.ada_tree.specs.declared.forms.FileForm.TheVariants as files
use Rattle.ada_tree.specs.declared.forms.Region.TheVariants as regions
use Rattle.ada_tree.specs.declared.identifiers.AspectName.TheVariants as aspect_names
use Rattle.ada_tree.specs.Identifiers.{aspect_name, names_mode, mode_named}
use Rattle.ada_tree.specs.Forms.{statement_form, compound_form, local_form, declaration_form, operation_form, file_form, named_end}
use Rattle.ada_tree.specs.Forms.{declared_end, unit_end}
use Rattle.ada_grammar.specs.Phrases as phrases
use Rattle.ada_grammar.specs.Parts.{Expr, Continued, RestOfExpr, BehindAnd, BehindOr, Opened, Begun, Chain, Rel, RestOfRel}
use Rattle.ada_grammar.specs.Parts.{Membership, Simple, Signed, Sums, Term, Products, Factor, Powered, Primary, Parens, Condition}
use Rattle.ada_grammar.specs.Parts.{Arms, InParens, NamedFrom, BehindExpr, Items, LastItem, Association, Choices, Associations}
use Rattle.ada_grammar.specs.Parts.{Choice, Name, Suffixes, MayOpen, BehindTick, BehindAttribute, ValuesFrom, Values, ArgumentsFrom}
use Rattle.ada_grammar.specs.Parts.{Arguments, Argument, Drange, SubtypeRange, UnitName, Points, Indication, IndicationFrom}
use Rattle.ada_grammar.specs.Parts.{Balanced, SkippedTokens, Pragma, Aspects, OptionalAspects, BehindWith, MoreAspects, Aspect}
use Rattle.ada_grammar.specs.Parts.{AspectOf, Defined, Atomic, SkippedAspect, DefinitionOf, NullOrItems, ItemsFrom, MoreItems}
use Rattle.ada_grammar.specs.Parts.{GlobalDefinition, InGlobal, ModesFrom, MoreModes, DependsDefinition, Elements, MoreElements}
use Rattle.ada_grammar.specs.Parts.{Element, Dependency, Refinement, Initialization, RefinedDefinition, InitializesDefinition}
use Rattle.ada_grammar.specs.Parts.{PartOf, StatesDefinition, InStates, MoreStates, State, StateWithOptions, Closing, Names}
use Rattle.ada_grammar.specs.Parts.{BehindNames, Object, ObjectFrom, Component, Formal, FormalMark, LocalDeclarations}
use Rattle.ada_grammar.specs.Parts.{LocalDeclaration, UnitNames, MoreUnitNames, TypeDefinition, Literals, MoreLiterals, RangeType}
use Rattle.ada_grammar.specs.Parts.{ArrayType, Components, MoreComponents, Statements, MoreStatements, Statement, NamedStatement}
use Rattle.ada_grammar.specs.Parts.{BehindName, Labelled, If, MoreArms, EndIf, Case, MoreAlternatives, Alternative, MoreChoices}
use Rattle.ada_grammar.specs.Parts.{While, For, ForRange, LoopBody, Declare, BlockBody, EndOfStatement, Exit, Return, ProperBody}
use Rattle.ada_grammar.specs.Parts.{EndOfDeclaration, EndOfUnit, Formals, MoreFormals, Procedure, Function, FunctionResult}
use Rattle.ada_grammar.specs.Parts.{BehindHead, NullOrValue, AnyCompletion, ValueOrBody, Value, SubprogramBody, Task, TaskNamed}
use Rattle.ada_grammar.specs.Parts.{TaskDefinition, TaskInBody, TaskBody, Protected, ProtectedNamed, Operations, PrivateItems}
use Rattle.ada_grammar.specs.Parts.{Operation, Entry, ProtectedInBody, ProtectedBody, OperationBodies, OperationBody, EntryBody}
use Rattle.ada_grammar.specs.Parts.{Barrier, Declarations, Declaration, TaskIn, ProtectedIn, MainUnit, PackageUnit, SpecUnit}
use Rattle.ada_grammar.specs.Parts.{BodyUnit, File, InFile, FileItem, Part, Body, Never, Gives, Take, Call, Rest, When, word, mark}
use Rattle.ada_grammar.specs.Parts.{is_none, one_less, ◌or◌, keyword, sign, identifier, name_from, optional_formals, leaves}
use Rattle.ada_grammar.specs.Parts.{semicolon, null_aspect}

abbrev pub rule : Part → Body
-- expr = rel {"and" rel} | rel {"or" rel} | rel {"xor" rel} | rel {"and" "then" rel} | rel {"or" "else" rel}
rule Expr = Call Simple (λ a. Rest (Continued a))
-- an expression behind its first simple expression
rule (Continued a) = Call (RestOfRel a) (λ r. Rest (RestOfExpr r))
rule (RestOfExpr a) =
    Take (word words.And) (λ o. Rest (BehindAnd a o))
    or Take (word words.Or) (λ o. Rest (BehindOr a o))
    or Take (word words.Xor) (λ o. Rest (Opened logical.Xor a o))
    or Gives a
rule (BehindAnd a o) =
    keyword words.Then (Rest (Opened logical.AndThen a o))
    or Rest (Opened logical.And a o)
rule (BehindOr a o) =
    keyword words.Else (Rest (Opened logical.OrElse a o))
    or Rest (Opened logical.Or a o)
rule (Opened operator a o) = Call (Begun operator a o) (λ b. Rest (Chain operator b))
-- the right operand, behind all words of the operator
rule (Begun operator a o) = Call Rel (λ b. Gives (phrases.logical operator o a b))
-- a chain of one operator
rule (Chain logical.And a) =
    Take (word words.And) (λ o. Call (Begun logical.And a o) (λ b. Rest (Chain logical.And b)))
    or Gives a
rule (Chain logical.Or a) =
    Take (word words.Or) (λ o. Call (Begun logical.Or a o) (λ b. Rest (Chain logical.Or b)))
    or Gives a
rule (Chain logical.Xor a) =
    Take (word words.Xor) (λ o. Call (Begun logical.Xor a o) (λ b. Rest (Chain logical.Xor b)))
    or Gives a
rule (Chain logical.AndThen a) =
    Take (word words.And) (λ o. keyword words.Then (Call (Begun logical.AndThen a o) (λ b.
    Rest (Chain logical.AndThen b))))
    or Gives a
rule (Chain logical.OrElse a) =
    Take (word words.Or) (λ o. keyword words.Else (Call (Begun logical.OrElse a o) (λ b.
    Rest (Chain logical.OrElse b))))
    or Gives a
-- rel = simple [("=" | "/=" | "<" | "<=" | ">" | ">=") simple] | simple ["not"] "in" (simple ".." simple | mark)
rule Rel = Call Simple (λ a. Rest (RestOfRel a))
rule (RestOfRel a) =
    Take classes.Relational (λ o. Call Simple (λ b. Gives (phrases.relation o a b)))
    or keyword words.Not (keyword words.In (Rest (Membership true a)))
    or keyword words.In (Rest (Membership false a))
    or Gives a
rule (Membership is_not a) =
    Call Simple (λ low.
    sign marks.Dots (Call Simple (λ high. Gives (phrases.range_membership is_not a low high)))
    or When (phrases.is_mark low.form) (Gives (phrases.mark_membership is_not a low)) Never)
-- simple = ["+" | "-"] term {("+" | "-") term}
rule Simple = Call Signed (λ a. Rest (Sums a))
rule Signed =
    Take classes.Adding (λ s. Call Term (λ a. Gives (phrases.sign s a)))
    or Rest Term
rule (Sums a) =
    Take classes.Adding (λ o. Call Term (λ b. Rest (Sums (phrases.sum o a b))))
    or Gives a
-- term = factor {("*" | "/" | "mod" | "rem") factor}
rule Term = Call Factor (λ a. Rest (Products a))
rule (Products a) =
    Take classes.Multiplying (λ o. Call Factor (λ b. Rest (Products (phrases.product o a b))))
    or Gives a
-- factor = primary ["**" primary] | "abs" primary | "not" primary
rule Factor =
    Take (word words.Abs) (λ t. Call Primary (λ a. Gives (phrases.absolute t a)))
    or Take (word words.Not) (λ t. Call Primary (λ a. Gives (phrases.negation t a)))
    or Rest Powered
rule Powered =
    Call Primary (λ a.
    Take (mark marks.Power) (λ o. Call Primary (λ b. Gives (phrases.power o a b)))
    or Gives a)
-- primary = Number | name | "(" expr ")" | "(" ifexpr ")" | aggregate
rule Primary =
    Take classes.Number (λ t. Gives (phrases.number t))
    or identifier (λ t. Rest (Suffixes true (phrases.identifier t)))
    or Take (mark marks.Open) (λ o. Rest (Parens o))
rule (Parens o) =
    Take (word words.If) (λ t. Call (Condition t) (λ c. Take (mark marks.Close) (λ z.
    Gives (phrases.parenthesized o c z))))
    or Rest (InParens o)
-- ifexpr = "if" expr "then" expr {"elsif" expr "then" expr} "else" expr
rule (Condition t) = Call Expr (λ c. keyword words.Then (Call Expr (λ v. Rest (Arms t (c.tree ∷ v.tree ∷ [])))))
rule (Arms t arms) =
    keyword words.Elsif (Call Expr (λ c. keyword words.Then (Call Expr (λ v.
    Rest (Arms t ((arms ++ c.tree ∷ []) ++ v.tree ∷ []))))))
    or keyword words.Else (Call Expr (λ v. Gives (phrases.conditional t arms v)))
-- aggregate | "(" expr ")", behind its parenthesis
rule (InParens o) =
    Take (word words.Others) (λ t. Rest (NamedFrom o (phrases.others_choice t)))
    or Call Simple (λ a.
    (sign marks.Dots (Call Simple (λ h. Rest (NamedFrom o (phrases.range_choice a h))))
    or Call (Continued a) (λ e. Rest (BehindExpr o e))))
-- "(" choice {"|" choice} "=>" expr {"," choice {"|" choice} "=>" expr} ")"
rule (NamedFrom o c) = Call (Choices c.span (c.tree ∷ [])) (λ a. Rest (Associations o (a.tree ∷ [])))
rule (BehindExpr o e) =
    Take (mark marks.Close) (λ z. Gives (phrases.parenthesized o e z))
    or sign marks.Comma (Call Expr (λ b. Rest (Items o (e.tree ∷ b.tree ∷ []))))
    or Rest (NamedFrom o (phrases.value_choice e))
-- "(" expr "," expr {"," expr} ["," "others" "=>" expr] ")"
rule (Items o items) =
    sign marks.Comma
    (keyword words.Others (Rest (LastItem o items))
    or Call Expr (λ b. Rest (Items o (items ++ b.tree ∷ []))))
    or Take (mark marks.Close) (λ z. Gives (phrases.positional false o items z))
rule (LastItem o items) =
    sign marks.Arrow (Call Expr (λ v. Take (mark marks.Close) (λ z.
    Gives (phrases.positional true o (items ++ v.tree ∷ []) z))))
rule Association = Call Choice (λ c. Rest (Choices c.span (c.tree ∷ [])))
rule (Choices first choices) =
    sign marks.Bar (Call Choice (λ c. Rest (Choices first (choices ++ c.tree ∷ []))))
    or sign marks.Arrow (Call Expr (λ v. Gives (phrases.association first choices v)))
rule (Associations o associations) =
    sign marks.Comma (Call Association (λ a. Rest (Associations o (associations ++ a.tree ∷ []))))
    or Take (mark marks.Close) (λ z. Gives (phrases.named_aggregate o associations z))
-- choice = expr | simple ".." simple | "others"
rule Choice =
    Take (word words.Others) (λ t. Gives (phrases.others_choice t))
    or Call Simple (λ a.
    (sign marks.Dots (Call Simple (λ h. Gives (phrases.range_choice a h)))
    or Call (Continued a) (λ e. Gives (phrases.value_choice e))))
-- name = id {"." id | "(" arg,+ ")" | "'" attr ["(" expr,+ ")"] | "'" (aggregate | "(" expr ")")}; attr = id | "Range"
rule Name = identifier (λ t. Rest (Suffixes true (phrases.identifier t)))
-- parentheses behind an attribute belong to it
rule (Suffixes may_open a) =
    sign marks.Dot (identifier (λ n. Rest (Suffixes true (phrases.selected a n))))
    or sign marks.Tick (Rest (BehindTick a))
    or Rest (MayOpen may_open a)
rule (MayOpen true a) =
    sign marks.Open (Call (ArgumentsFrom a) (λ n. Rest (Suffixes true n)))
    or Gives a
rule (MayOpen false a) = Gives a
rule (BehindTick a) =
    Take classes.AttributeName (λ n. Rest (BehindAttribute a n))
    or Take (mark marks.Open) (λ o. Call (InParens o) (λ q. Rest (Suffixes true (phrases.qualified a q))))
rule (BehindAttribute a n) =
    sign marks.Open (Call (ValuesFrom a n) (λ v. Rest (Suffixes true v)))
    or Rest (Suffixes false (phrases.attribute n.token.kind a n))
rule (ValuesFrom a n) = Call Expr (λ b. Rest (Values a.span n (a.tree ∷ b.tree ∷ [])))
rule (Values first n values) =
    sign marks.Comma (Call Expr (λ b. Rest (Values first n (values ++ b.tree ∷ []))))
    or Take (mark marks.Close) (λ z. Gives (phrases.attribute_of n.token.kind first n values z))
rule (ArgumentsFrom a) = Call Argument (λ b. Rest (Arguments a.span (a.tree ∷ b.tree ∷ [])))
rule (Arguments first arguments) =
    sign marks.Comma (Call Argument (λ b. Rest (Arguments first (arguments ++ b.tree ∷ []))))
    or Take (mark marks.Close) (λ z. Gives (phrases.applied first arguments z))
-- arg = [id "=>"] expr
rule Argument =
    Call Expr (λ a.
    When (phrases.is_identifier a.form)
    (sign marks.Arrow (Call Expr (λ b. Gives (phrases.named_argument a b)))
    or Gives (phrases.argument a))
    (Gives (phrases.argument a)))
-- drange = sub | simple ".." simple | name "'" "Range"; sub = mark ["range" simple ".." simple]
rule Drange =
    Call Simple (λ a.
    sign marks.Dots (Call Simple (λ h. Gives (phrases.bounds_range a h)))
    or When (phrases.is_mark a.form)
    (Rest (SubtypeRange a))
    (When (phrases.is_range a.form) (Gives (phrases.attribute_range a)) Never))
rule (SubtypeRange a) =
    keyword words.Range (Call Simple (λ l. sign marks.Dots (Call Simple (λ h.
    Gives (phrases.subtype_range (phrases.range_indication a l h))))))
    or Gives (phrases.subtype_range (phrases.indication a))
-- uname = id {"." id}, also for mark
rule UnitName = identifier (λ t. Rest (Points (phrases.identifier t)))
rule (Points a) =
    sign marks.Dot (identifier (λ n. Rest (Points (phrases.selected a n))))
    or Gives a
-- sub = mark ["range" simple ".." simple]
rule Indication = Call UnitName (λ a. Rest (IndicationFrom a))
rule (IndicationFrom a) =
    keyword words.Range (Call Simple (λ l. sign marks.Dots (Call Simple (λ h. Gives (phrases.range_indication a l h)))))
    or Gives (phrases.indication a)
-- balanced ")", where so many more parentheses are open: any tokens with balanced parentheses
rule (Balanced n) =
    Take classes.Enclosed (λ t. Rest (Balanced n))
    or sign marks.Open (Rest (Balanced (n + 1)))
    or sign marks.Close (When (is_none n) (Gives phrases.blank) (Rest (Balanced (one_less n))))
-- balanced tokens up to a comma, a semicolon or the word is outside parentheses
rule SkippedTokens =
    Take classes.Skipped (λ t. Rest SkippedTokens)
    or sign marks.Open (Call (Balanced 0) (λ x. Rest SkippedTokens))
    or Gives phrases.blank
-- pragma = "pragma" id ["(" balanced ")"] ";", behind its word; it leaves no node
rule Pragma =
    identifier (λ name.
    sign marks.Open (Call (Balanced 0) (λ x. sign marks.Semicolon (Gives phrases.blank)))
    or sign marks.Semicolon (Gives phrases.blank))
-- aspects = "with" aspect {"," aspect}
rule (Aspects d) = keyword words.With (Rest (BehindWith d))
rule (OptionalAspects d) =
    keyword words.With (Rest (BehindWith d))
    or leaves d
rule (BehindWith d) = Call (Aspect d) (λ x. Rest (MoreAspects x.children))
rule (MoreAspects d) =
    sign marks.Comma (Call (Aspect d) (λ x. Rest (MoreAspects x.children)))
    or leaves d
-- aspect = id ["=>" adef]
rule (Aspect d) = identifier (λ name. Rest (AspectOf (aspect_name name.text) name d))
rule (AspectOf aspect_names.Global name d) = Rest (Defined aspects.Global definitions.Global name d)
rule (AspectOf aspect_names.RefinedGlobal name d) = Rest (Defined aspects.RefinedGlobal definitions.Global name d)
rule (AspectOf aspect_names.Depends name d) = Rest (Defined aspects.Depends definitions.Depends name d)
rule (AspectOf aspect_names.RefinedDepends name d) = Rest (Defined aspects.RefinedDepends definitions.Depends name d)
rule (AspectOf aspect_names.AbstractState name d) = Rest (Defined aspects.AbstractState definitions.States name d)
rule (AspectOf aspect_names.RefinedState name d) = Rest (Defined aspects.RefinedState definitions.RefinedState name d)
rule (AspectOf aspect_names.Initializes name d) = Rest (Defined aspects.Initializes definitions.Initializes name d)
rule (AspectOf aspect_names.PartOf name d) = Rest (Defined aspects.PartOf definitions.PartOf name d)
rule (AspectOf aspect_names.Atomic name d) = Rest (Atomic name d)
rule (AspectOf aspect_names.Skipped name d) = Rest (SkippedAspect (aspects.Skipped true) (aspects.Skipped false) name d)
rule (AspectOf aspect_names.Unknown name d) = Rest (SkippedAspect (aspects.Unknown true) (aspects.Unknown false) name d)
-- an aspect that has a definition
rule (Defined kind definition name d) =
    sign marks.Arrow (Call (DefinitionOf definition phrases.none) (λ x.
    leaves (phrases.named_aspect kind name x.children d)))
-- Atomic ["=>" "True"]
rule (Atomic name d) =
    sign marks.Arrow (Take classes.True (λ value.
    leaves (phrases.named_aspect (aspects.Atomic true) name phrases.none d)))
    or leaves (phrases.named_aspect (aspects.Atomic false) name phrases.none d)
-- an aspect of another name; what is skipped leaves its name alone
rule (SkippedAspect defined alone name d) =
    sign marks.Arrow (Call SkippedTokens (λ x. leaves (phrases.named_aspect defined name phrases.none d)))
    or leaves (phrases.named_aspect alone name phrases.none d)
rule (DefinitionOf definitions.Global d) = Rest (GlobalDefinition d)
rule (DefinitionOf definitions.Depends d) = Rest (DependsDefinition d)
rule (DefinitionOf definitions.States d) = Rest (StatesDefinition d)
rule (DefinitionOf definitions.RefinedState d) = Rest (RefinedDefinition d)
rule (DefinitionOf definitions.Initializes d) = Rest (InitializesDefinition d)
rule (DefinitionOf definitions.PartOf d) = Rest (PartOf d)
-- "null" | name | "(" name {"," name} ")"
rule (NullOrItems d) =
    null_aspect d
    or Take (mark marks.Open) (λ opening. identifier (λ name. Rest (ItemsFrom opening.token.span name d)))
    or identifier (λ name. name_from name (λ x.
    leaves (phrases.aspect aspects.Items name.token.span (phrases.one_expr x.tree) d)))
rule (ItemsFrom span name d) = name_from name (λ x. Rest (MoreItems span (phrases.one_expr x.tree) d))
rule (MoreItems span items d) =
    sign marks.Comma (identifier (λ name. name_from name (λ x.
    Rest (MoreItems span (phrases.with_expr items x.tree) d))))
    or sign marks.Close (leaves (phrases.aspect aspects.Items span items d))
-- "null" | items | "(" mode "=>" ("null" | items) {"," mode "=>" ("null" | items)} ")"
rule (GlobalDefinition d) =
    null_aspect d
    or Take (mark marks.Open) (λ opening. identifier (λ name. Rest (InGlobal opening.token.span name d)))
    or identifier (λ name. name_from name (λ x.
    leaves (phrases.aspect aspects.Items name.token.span (phrases.one_expr x.tree) d)))
rule (InGlobal span name d) =
    When (names_mode name.text)
    (sign marks.Arrow (Rest (ModesFrom name d))
    or Rest (ItemsFrom span name d))
    (Rest (ItemsFrom span name d))
rule (ModesFrom name d) =
    Call (NullOrItems phrases.none) (λ x.
    Rest (MoreModes (phrases.named_aspect (aspects.Mode (mode_named name.text)) name x.children d)))
rule (MoreModes d) =
    sign marks.Comma (Take classes.Mode (λ name. sign marks.Arrow (Call (NullOrItems phrases.none) (λ x.
    Rest (MoreModes (phrases.named_aspect (aspects.Mode (mode_named name.text)) name x.children d))))))
    or sign marks.Close (leaves d)
-- "null" | "(" dependency {"," dependency} ")"
rule (DependsDefinition d) =
    null_aspect d
    or sign marks.Open (Rest (Elements listings.Dependencies d))
rule (Elements of d) = Call (Element of d) (λ x. Rest (MoreElements of x.children))
rule (MoreElements of d) =
    sign marks.Comma (Call (Element of d) (λ x. Rest (MoreElements of x.children)))
    or sign marks.Close (leaves d)
rule (Element listings.Dependencies d) = Rest (Dependency d)
rule (Element listings.Refinements d) = Rest (Refinement d)
rule (Element listings.Initializations d) = Rest (Initialization d)
-- dependency = ("null" | items) "=>" ["+"] ("null" | items)
rule (Dependency d) =
    Call (NullOrItems phrases.none) (λ x. Take (mark marks.Arrow) (λ arrow.
    sign marks.Plus (Call (NullOrItems x.children) (λ y.
    leaves (phrases.aspect (aspects.Dependency true) arrow.token.span y.children d)))
    or Call (NullOrItems x.children) (λ y.
    leaves (phrases.aspect (aspects.Dependency false) arrow.token.span y.children d))))
-- name "=>" ("null" | items)
rule (Refinement d) =
    identifier (λ name. name_from name (λ x. sign marks.Arrow (
    Call (NullOrItems (phrases.one_expr x.tree)) (λ y.
    leaves (phrases.aspect aspects.Refinement name.token.span y.children d)))))
-- name ["=>" ("null" | items)]
rule (Initialization d) =
    identifier (λ name. name_from name (λ x.
    sign marks.Arrow (Call (NullOrItems (phrases.one_expr x.tree)) (λ y.
    leaves (phrases.aspect (aspects.Initialized true) name.token.span y.children d)))
    or leaves (phrases.aspect (aspects.Initialized false) name.token.span (phrases.one_expr x.tree) d)))
-- "(" refinement {"," refinement} ")"
rule (RefinedDefinition d) = sign marks.Open (Rest (Elements listings.Refinements d))
rule (InitializesDefinition d) =
    null_aspect d
    or sign marks.Open (Rest (Elements listings.Initializations d))
    or identifier (λ name. name_from name (λ x.
    leaves (phrases.aspect (aspects.Initialized false) name.token.span (phrases.one_expr x.tree) d)))
rule (PartOf d) = identifier (λ name. name_from name (λ x. leaves (phrases.with_expr d x.tree)))
-- "null" | state | "(" state {"," state} ")"; "(" id "with" balanced ")" alone is one state
rule (StatesDefinition d) =
    keyword words.Null (leaves d)
    or identifier (λ name. leaves (phrases.declared (decls.State false) name phrases.none d))
    or sign marks.Open (Rest (InStates d))
rule (InStates d) =
    identifier (λ name.
    (keyword words.With (Call (Balanced 0) (λ x. leaves (phrases.declared (decls.State true) name phrases.none d)))
    or Rest (MoreStates (phrases.declared (decls.State false) name phrases.none d))))
    or sign marks.Open (Call (StateWithOptions d) (λ x. Rest (MoreStates x.children)))
rule (MoreStates d) =
    sign marks.Comma (Call (State d) (λ x. Rest (MoreStates x.children)))
    or sign marks.Close (leaves d)
-- state = id | "(" id "with" balanced ")"
rule (State d) =
    identifier (λ name. leaves (phrases.declared (decls.State false) name phrases.none d))
    or sign marks.Open (Rest (StateWithOptions d))
rule (StateWithOptions d) =
    identifier (λ name. keyword words.With (Call (Balanced 0) (λ x.
    leaves (phrases.declared (decls.State true) name phrases.none d))))
-- [aspects] ";"
rule (Closing kind names own d) =
    keyword words.With (Call (BehindWith own) (λ x. semicolon (phrases.declared_all kind names x.children d)))
    or semicolon (phrases.declared_all kind names own d)
-- id {"," id} ":" ..
rule (Names what names d) =
    sign marks.Comma (identifier (λ name. Rest (Names what (names ++ name ∷ []) d)))
    or sign marks.Colon (Rest (BehindNames what names d))
rule (BehindNames naming.Objects names d) = Rest (Object names d)
rule (BehindNames naming.Components names d) = Rest (Component names d)
rule (BehindNames naming.Formals names d) = Rest (Formal names d)
-- object = id,+ ":" ["constant"] sub [":=" expr] [aspects] ";"; number = id,+ ":" "constant" ":=" expr ";"
rule (Object names d) =
    keyword words.Constant
    (sign marks.Becomes (Call Expr (λ x.
    semicolon (phrases.declared_all decls.NamedNumber names (phrases.one_expr x.tree) d)))
    or Rest (ObjectFrom true names d))
    or Rest (ObjectFrom false names d)
rule (ObjectFrom constant names d) =
    Call Indication (λ x.
    sign marks.Becomes (Call Expr (λ y.
    Rest (Closing (decls.Object constant true) names (phrases.two_exprs x.tree y.tree) d)))
    or Rest (Closing (decls.Object constant false) names (phrases.one_expr x.tree) d))
-- comp = id,+ ":" sub [":=" expr] ";"
rule (Component names d) =
    Call Indication (λ x.
    sign marks.Becomes (Call Expr (λ y.
    semicolon (phrases.declared_all (decls.Component true) names (phrases.two_exprs x.tree y.tree) d)))
    or semicolon (phrases.declared_all (decls.Component false) names (phrases.one_expr x.tree) d))
-- formal = id,+ ":" ["in"] ["out"] mark
rule (Formal names d) =
    keyword words.In
    (keyword words.Out (Rest (FormalMark (decls.Formal true true) names d))
    or Rest (FormalMark (decls.Formal true false) names d))
    or keyword words.Out (Rest (FormalMark (decls.Formal false true) names d))
    or Rest (FormalMark (decls.Formal false false) names d)
rule (FormalMark kind names d) =
    Call UnitName (λ x. leaves (phrases.declared_all kind names (phrases.one_expr x.tree) d))
-- {ldecl}; ldecl = type | subtype | object | number | use | pragma
rule (LocalDeclarations d) =
    Take classes.LocalDeclaration (λ first. Call (LocalDeclaration (local_form first.token.kind) first d) (λ x.
    Rest (LocalDeclarations x.children)))
    or leaves d
rule (LocalDeclaration locals.Type first d) = identifier (λ name. keyword words.Is (Rest (TypeDefinition name d)))
rule (LocalDeclaration locals.Subtype first d) =
    identifier (λ name. keyword words.Is (Call Indication (λ x.
    Rest (Closing decls.Subtype (name ∷ []) (phrases.one_expr x.tree) d))))
rule (LocalDeclaration locals.Object first d) = Rest (Names naming.Objects (first ∷ []) d)
rule (LocalDeclaration locals.Use first d) =
    keyword words.Type (Rest (UnitNames (decls.Use true) first.token.span d))
    or Rest (UnitNames (decls.Use false) first.token.span d)
rule (LocalDeclaration locals.Pragma first d) = Call Pragma (λ x. leaves d)
-- uname {"," uname} ";"
rule (UnitNames kind span d) = Call UnitName (λ x. Rest (MoreUnitNames kind span (phrases.one_expr x.tree) d))
rule (MoreUnitNames kind span own d) =
    sign marks.Comma (Call UnitName (λ x. Rest (MoreUnitNames kind span (phrases.with_expr own x.tree) d)))
    or semicolon (phrases.unnamed kind span own d)
-- tdef = "(" id,+ ")" | "range" simple ".." simple | "mod" expr | "array" "(" drange ")" "of" mark | "null" "record" |
-- "private" | "record" comp {comp} "end" "record"
rule (TypeDefinition name d) =
    sign marks.Open (Rest (Literals name d))
    or keyword words.Range (Rest (RangeType name d))
    or keyword words.Mod (Call Expr (λ x. Rest (Closing decls.ModularType (name ∷ []) (phrases.one_expr x.tree) d)))
    or keyword words.Array (Rest (ArrayType name d))
    or keyword words.Null (keyword words.Record (Rest (Closing decls.NullRecordType (name ∷ []) phrases.none d)))
    or keyword words.Private (Rest (Closing decls.PrivateType (name ∷ []) phrases.none d))
    or keyword words.Record (Rest (Components name d))
rule (Literals name d) =
    identifier (λ literal.
    Rest (MoreLiterals name (phrases.declared decls.EnumerationLiteral literal phrases.none phrases.none) d))
rule (MoreLiterals name own d) =
    sign marks.Comma (identifier (λ literal.
    Rest (MoreLiterals name (phrases.declared decls.EnumerationLiteral literal phrases.none own) d)))
    or sign marks.Close (Rest (Closing decls.EnumerationType (name ∷ []) own d))
rule (RangeType name d) =
    Call Simple (λ x. sign marks.Dots (Call Simple (λ y.
    Rest (Closing decls.RangeType (name ∷ []) (phrases.two_exprs x.tree y.tree) d))))
rule (ArrayType name d) =
    sign marks.Open (Call Drange (λ x. sign marks.Close (keyword words.Of (Call UnitName (λ y.
    Rest (Closing decls.ArrayType (name ∷ []) (phrases.two_exprs x.tree y.tree) d))))))
rule (Components name d) =
    identifier (λ first. Call (Names naming.Components (first ∷ []) phrases.none) (λ x.
    Rest (MoreComponents name x.children d)))
rule (MoreComponents name own d) =
    identifier (λ first. Call (Names naming.Components (first ∷ []) own) (λ x. Rest (MoreComponents name x.children d)))
    or keyword words.End (keyword words.Record (Rest (Closing decls.RecordType (name ∷ []) own d)))
-- stmts = stmt {stmt}
rule (Statements d) =
    Take classes.Statement (λ first. Call (Statement (statement_form first.token.kind) first phrases.none) (λ x.
    Rest (MoreStatements first.token.span x.children d)))
rule (MoreStatements span own d) =
    Take classes.Statement (λ first. Call (Statement (statement_form first.token.kind) first own) (λ x.
    Rest (MoreStatements span x.children d)))
    or leaves (phrases.statement stmts.Sequence span own d)
rule (Statement statements.Null first d) = semicolon (phrases.statement stmts.Null first.token.span phrases.none d)
rule (Statement statements.Pragma first d) = Call Pragma (λ x. leaves d)
rule (Statement statements.Named first d) = Rest (NamedStatement first d)
rule (Statement statements.If first d) = Rest (If first d)
rule (Statement statements.Case first d) = Rest (Case first d)
rule (Statement statements.While first d) = Rest (While false first phrases.none d)
rule (Statement statements.For first d) = Rest (For false first phrases.none d)
rule (Statement statements.Loop first d) = Rest (LoopBody (stmts.Loop false false) first.token.span phrases.none d)
rule (Statement statements.Declare first d) = Rest (Declare false first phrases.none d)
rule (Statement statements.Begin first d) =
    Rest (BlockBody (stmts.Block false false false) first.token.span phrases.none d)
rule (Statement statements.Exit first d) = Rest (Exit first d)
rule (Statement statements.Return first d) = Rest (Return first d)
rule (Statement statements.Delay first d) =
    keyword words.Until (Call Expr (λ x.
    semicolon (phrases.statement stmts.DelayUntil first.token.span (phrases.one_expr x.tree) d)))
-- a statement that begins with an identifier: id ":" before a loop or a block, an assignment, a call
rule (NamedStatement first d) =
    sign marks.Colon (Take classes.Compound (λ opening.
    Rest (Labelled (compound_form opening.token.kind) opening
    (phrases.declared decls.StatementName first phrases.none phrases.none) d)))
    or name_from first (λ x. Rest (BehindName first.token.span (phrases.one_expr x.tree) d))
rule (BehindName span own d) =
    sign marks.Becomes (Call Expr (λ x.
    semicolon (phrases.statement stmts.Assignment span (phrases.with_expr own x.tree) d)))
    or semicolon (phrases.statement stmts.Call span own d)
rule (Labelled compounds.While first own d) = Rest (While true first own d)
rule (Labelled compounds.For first own d) = Rest (For true first own d)
rule (Labelled compounds.Loop first own d) = Rest (LoopBody (stmts.Loop true false) first.token.span own d)
rule (Labelled compounds.Declare first own d) = Rest (Declare true first own d)
rule (Labelled compounds.Begin first own d) = Rest (BlockBody (stmts.Block true false false) first.token.span own d)
-- "if" expr "then" stmts {"elsif" expr "then" stmts} ["else" stmts] "end" "if" ";"
rule (If first d) =
    Call Expr (λ x. keyword words.Then (Call (Statements (phrases.one_expr x.tree)) (λ y.
    Rest (MoreArms first.token.span y.children d))))
rule (MoreArms span own d) =
    keyword words.Elsif (Call Expr (λ x. keyword words.Then (
    Call (Statements (phrases.with_expr own x.tree)) (λ y. Rest (MoreArms span y.children d)))))
    or keyword words.Else (Call (Statements own) (λ x. Rest (EndIf (stmts.If true) span x.children d)))
    or Rest (EndIf (stmts.If false) span own d)
rule (EndIf kind span own d) = keyword words.End (keyword words.If (semicolon (phrases.statement kind span own d)))
-- "case" expr "is" alt {alt} "end" "case" ";"
rule (Case first d) =
    Call Expr (λ x. keyword words.Is (Take (word words.When) (λ alternative.
    Call (Alternative alternative.token.span (phrases.one_expr x.tree)) (λ y.
    Rest (MoreAlternatives first.token.span y.children d)))))
rule (MoreAlternatives span own d) =
    Take (word words.When) (λ alternative. Call (Alternative alternative.token.span own) (λ x.
    Rest (MoreAlternatives span x.children d)))
    or keyword words.End (keyword words.Case (semicolon (phrases.statement stmts.Case span own d)))
-- alt = "when" choice {"|" choice} "=>" stmts
rule (Alternative span d) = Call Choice (λ x. Rest (MoreChoices span (phrases.one_expr x.tree) d))
rule (MoreChoices span own d) =
    sign marks.Bar (Call Choice (λ x. Rest (MoreChoices span (phrases.with_expr own x.tree) d)))
    or sign marks.Arrow (Call (Statements own) (λ x. leaves (phrases.statement stmts.Alternative span x.children d)))
-- ["while" expr | "for" id "in" ["reverse"] drange] "loop" stmts "end" "loop" [id] ";"
rule (While labelled first own d) =
    Call Expr (λ x. keyword words.Loop (
    Rest (LoopBody (stmts.While labelled false) first.token.span (phrases.with_expr own x.tree) d)))
rule (For labelled first own d) =
    identifier (λ name. keyword words.In (
    keyword words.Reverse (
    Rest (ForRange (decls.LoopParameter true) name (stmts.For labelled false) first.token.span own d))
    or Rest (ForRange (decls.LoopParameter false) name (stmts.For labelled false) first.token.span own d)))
rule (ForRange parameter name kind span own d) =
    Call Drange (λ x. keyword words.Loop (
    Rest (LoopBody kind span (phrases.declared parameter name (phrases.one_expr x.tree) own) d)))
rule (LoopBody kind span own d) =
    Call (Statements own) (λ x. keyword words.End (keyword words.Loop (Rest (EndOfStatement kind span x.children d))))
-- ["declare" {ldecl}] "begin" stmts "end" [id] ";"
rule (Declare labelled first own d) =
    Call (LocalDeclarations own) (λ x. keyword words.Begin (
    Rest (BlockBody (stmts.Block labelled true false) first.token.span x.children d)))
rule (BlockBody kind span own d) =
    Call (Statements own) (λ x. keyword words.End (Rest (EndOfStatement kind span x.children d)))
-- [id] ";"
rule (EndOfStatement kind span own d) =
    identifier (λ name.
    semicolon (phrases.statement (named_end kind) span (phrases.with_expr own (phrases.end_name name)) d))
    or semicolon (phrases.statement kind span own d)
-- "exit" [id] ["when" expr] ";"
rule (Exit first d) =
    identifier (λ name.
    (keyword words.When (Call Expr (λ x.
    semicolon
    (phrases.statement (stmts.Exit true true) first.token.span (phrases.two_exprs (phrases.end_name name) x.tree) d)))
    or semicolon
    (phrases.statement (stmts.Exit true false) first.token.span (phrases.one_expr (phrases.end_name name)) d)))
    or keyword words.When (Call Expr (λ x.
    semicolon (phrases.statement (stmts.Exit false true) first.token.span (phrases.one_expr x.tree) d)))
    or semicolon (phrases.statement (stmts.Exit false false) first.token.span phrases.none d)
-- "return" [expr] ";"
rule (Return first d) =
    semicolon (phrases.statement (stmts.Return false) first.token.span phrases.none d)
    or Call Expr (λ x. semicolon (phrases.statement (stmts.Return true) first.token.span (phrases.one_expr x.tree) d))
-- {ldecl} "begin" stmts "end"
rule (ProperBody d) =
    Call (LocalDeclarations d) (λ x. keyword words.Begin (Call (Statements x.children) (λ y. keyword words.End (
    leaves y.children))))
-- [id] ";"
rule (EndOfDeclaration kind name own d) =
    identifier (λ last.
    semicolon (phrases.declared (declared_end kind) name (phrases.with_expr own (phrases.end_name last)) d))
    or semicolon (phrases.declared kind name own d)
rule (EndOfUnit kind name own d) =
    identifier (λ last. semicolon (phrases.unit (unit_end kind) name (phrases.with_expr own (phrases.end_name last)) d))
    or semicolon (phrases.unit kind name own d)
-- formals = "(" formal {";" formal} ")", behind the parenthesis
rule (Formals d) = identifier (λ first. Call (Names naming.Formals (first ∷ []) d) (λ x. Rest (MoreFormals x.children)))
rule (MoreFormals d) =
    sign marks.Semicolon (identifier (λ first. Call (Names naming.Formals (first ∷ []) d) (λ x.
    Rest (MoreFormals x.children))))
    or sign marks.Close (leaves d)
-- head = "procedure" id [formals] | "function" id [formals] "return" mark
rule (Procedure region d) =
    identifier (λ name. optional_formals (λ given own. Rest (BehindHead region (heads.Procedure given) name own d)))
rule (Function region d) =
    identifier (λ name. optional_formals (λ given own. Rest (FunctionResult region (heads.Function given) name own d)))
rule (FunctionResult region head name own d) =
    keyword words.Return (Call UnitName (λ x. Rest (BehindHead region head name (phrases.with_expr own x.tree) d)))
-- subdecl = head ["is" "null"] [aspects] ";"; exprfun = head "is" "(" expr ")" [aspects] ";"; subbody = head [aspects]
-- "is" {ldecl} "begin" stmts "end" [id] ";"
rule (BehindHead regions.Spec head name own d) =
    keyword words.With (Call (BehindWith own) (λ x.
    semicolon (phrases.declared (decls.SubprogramDeclaration head false) name x.children d)))
    or semicolon (phrases.declared (decls.SubprogramDeclaration head false) name own d)
    or keyword words.Is (Rest (NullOrValue head name own d))
rule (BehindHead regions.Body head name own d) =
    keyword words.With (Call (BehindWith own) (λ x.
    (semicolon (phrases.declared (decls.SubprogramDeclaration head false) name x.children d)
    or keyword words.Is (Rest (SubprogramBody head name x.children d)))))
    or semicolon (phrases.declared (decls.SubprogramDeclaration head false) name own d)
    or keyword words.Is (Rest (AnyCompletion head name own d))
rule (BehindHead regions.Protected head name own d) = Rest (Closing (decls.ProtectedSubprogram head) (name ∷ []) own d)
rule (BehindHead regions.ProtectedBody head name own d) =
    keyword words.With (Call (BehindWith own) (λ x. keyword words.Is (Rest (SubprogramBody head name x.children d))))
    or keyword words.Is (Rest (ValueOrBody head name own d))
rule (NullOrValue head name own d) =
    keyword words.Null (Rest (Closing (decls.SubprogramDeclaration head true) (name ∷ []) own d))
    or sign marks.Open (Rest (Value head name own d))
rule (AnyCompletion head name own d) =
    keyword words.Null (Rest (Closing (decls.SubprogramDeclaration head true) (name ∷ []) own d))
    or Rest (ValueOrBody head name own d)
rule (ValueOrBody head name own d) =
    sign marks.Open (Rest (Value head name own d))
    or Rest (SubprogramBody head name own d)
rule (Value head name own d) =
    Call Expr (λ x. sign marks.Close (
    Rest (Closing (decls.ExpressionFunction head) (name ∷ []) (phrases.with_expr own x.tree) d)))
rule (SubprogramBody head name own d) =
    Call (ProperBody own) (λ x. Rest (EndOfDeclaration (decls.SubprogramBody head false) name x.children d))
-- task = "task" ["type"] id [aspects] ["is" {pragma} "end" [id]] ";"
rule (Task d) =
    keyword words.Type (Rest (TaskNamed true d))
    or Rest (TaskNamed false d)
rule (TaskNamed is_type d) =
    identifier (λ name. Call (OptionalAspects phrases.none) (λ x.
    keyword words.Is (Rest (TaskDefinition (decls.Task is_type true false) name x.children d))
    or semicolon (phrases.declared (decls.Task is_type false false) name x.children d)))
rule (TaskDefinition kind name own d) =
    keyword words.Pragma (Call Pragma (λ x. Rest (TaskDefinition kind name own d)))
    or keyword words.End (Rest (EndOfDeclaration kind name own d))
rule (TaskInBody d) =
    keyword words.Body (Rest (TaskBody d))
    or Rest (Task d)
-- tbody = "task" "body" id [aspects] "is" {ldecl} "begin" stmts "end" [id] ";"
rule (TaskBody d) =
    identifier (λ name. Call (OptionalAspects phrases.none) (λ x. keyword words.Is (
    Call (ProperBody x.children) (λ y. Rest (EndOfDeclaration (decls.TaskBody false) name y.children d)))))
-- protected = "protected" ["type"] id [aspects] "is" {op | pragma} ["private" {op | comp | pragma}] "end" [id] ";"
rule (Protected d) =
    keyword words.Type (Rest (ProtectedNamed true d))
    or Rest (ProtectedNamed false d)
rule (ProtectedNamed is_type d) =
    identifier (λ name. Call (OptionalAspects phrases.none) (λ x. keyword words.Is (
    Call (Operations x.children) (λ y.
    Take (word words.Private) (λ private. Call (PrivateItems phrases.none) (λ z. keyword words.End (
    Rest (EndOfDeclaration (decls.Protected is_type true false) name
    (phrases.unnamed decls.PrivatePart private.token.span z.children y.children) d))))
    or keyword words.End (Rest (EndOfDeclaration (decls.Protected is_type false false) name y.children d))))))
rule (Operations d) =
    Take classes.Operation (λ first. Call (Operation (operation_form first.token.kind) first d) (λ x.
    Rest (Operations x.children)))
    or leaves d
rule (PrivateItems d) =
    Take classes.PrivateItem (λ first. Call (Operation (operation_form first.token.kind) first d) (λ x.
    Rest (PrivateItems x.children)))
    or leaves d
-- op = (head | "entry" id [formals]) [aspects] ";"
rule (Operation operations.Procedure first d) = Rest (Procedure regions.Protected d)
rule (Operation operations.Function first d) = Rest (Function regions.Protected d)
rule (Operation operations.Entry first d) = Rest (Entry d)
rule (Operation operations.Pragma first d) = Call Pragma (λ x. leaves d)
rule (Operation operations.Component first d) = Rest (Names naming.Components (first ∷ []) d)
rule (Entry d) =
    identifier (λ name. optional_formals (λ given own. Rest (Closing (decls.Entry given) (name ∷ []) own d)))
rule (ProtectedInBody d) =
    keyword words.Body (Rest (ProtectedBody d))
    or Rest (Protected d)
-- obody = "protected" "body" id [aspects] "is" {subbody | exprfun | ebody} "end" [id] ";"
rule (ProtectedBody d) =
    identifier (λ name. Call (OptionalAspects phrases.none) (λ x. keyword words.Is (
    Call (OperationBodies x.children) (λ y. keyword words.End (
    Rest (EndOfDeclaration (decls.ProtectedBody false) name y.children d))))))
rule (OperationBodies d) =
    Take classes.OperationBody (λ first. Call (OperationBody (operation_form first.token.kind) d) (λ x.
    Rest (OperationBodies x.children)))
    or leaves d
rule (OperationBody operations.Function d) = Rest (Function regions.ProtectedBody d)
rule (OperationBody operations.Entry d) = Rest (EntryBody d)
rule (OperationBody which d) = Rest (Procedure regions.ProtectedBody d)
-- ebody = "entry" id [formals] "when" expr "is" {ldecl} "begin" stmts "end" [id] ";"
rule (EntryBody d) = identifier (λ name. optional_formals (λ given own. Rest (Barrier given name own d)))
rule (Barrier has_formals name own d) =
    keyword words.When (Call Expr (λ x. keyword words.Is (Call (ProperBody (phrases.with_expr own x.tree)) (λ y.
    Rest (EndOfDeclaration (decls.EntryBody has_formals false) name y.children d)))))
-- decl = ldecl | subdecl | exprfun | task | protected; in a body also subbody | tbody | obody
rule (Declarations region d) =
    Take classes.Declaration (λ first.
    Call (Declaration region (declaration_form first.token.kind) first d) (λ x.
    Rest (Declarations region x.children)))
    or leaves d
rule (Declaration region declarations.Procedure first d) = Rest (Procedure region d)
rule (Declaration region declarations.Function first d) = Rest (Function region d)
rule (Declaration region declarations.Task first d) = Rest (TaskIn region d)
rule (Declaration region declarations.Protected first d) = Rest (ProtectedIn region d)
rule (Declaration region declarations.Local first d) = Rest (LocalDeclaration (local_form first.token.kind) first d)
rule (TaskIn regions.Body d) = Rest (TaskInBody d)
rule (TaskIn region d) = Rest (Task d)
rule (ProtectedIn regions.Body d) = Rest (ProtectedInBody d)
rule (ProtectedIn region d) = Rest (Protected d)
-- main = "procedure" id [aspects] "is" {ldecl} "begin" stmts "end" [id] ";"
rule (MainUnit own d) =
    identifier (λ name. Call (OptionalAspects own) (λ x. keyword words.Is (Call (ProperBody x.children) (λ y.
    Rest (EndOfUnit (units.Main false) name y.children d)))))
rule (PackageUnit own d) =
    keyword words.Body (Rest (BodyUnit own d))
    or Rest (SpecUnit own d)
-- spec = "package" id [aspects] "is" {decl} ["private" {decl}] "end" [id] ";"
rule (SpecUnit own d) =
    identifier (λ name. Call (OptionalAspects own) (λ x. keyword words.Is (
    Call (Declarations regions.Spec x.children) (λ y.
    Take (word words.Private) (λ private. Call (Declarations regions.Spec phrases.none) (λ z.
    keyword words.End (
    Rest (EndOfUnit (units.Spec true false) name
    (phrases.unnamed decls.PrivatePart private.token.span z.children y.children) d))))
    or keyword words.End (Rest (EndOfUnit (units.Spec false false) name y.children d))))))
-- pbody = "package" "body" id [aspects] "is" {decl | subbody | tbody | obody} ["begin" stmts] "end" [id] ";"
rule (BodyUnit own d) =
    identifier (λ name. Call (OptionalAspects own) (λ x. keyword words.Is (
    Call (Declarations regions.Body x.children) (λ y.
    keyword words.Begin (Call (Statements y.children) (λ z. keyword words.End (
    Rest (EndOfUnit (units.PackageBody true false) name z.children d))))
    or keyword words.End (Rest (EndOfUnit (units.PackageBody false false) name y.children d))))))
-- file = {pragma} unit {pragma | unit}; unit = {context} (spec | pbody | main); context = "with" uname,+ ";" | use |
-- pragma
rule File = Rest (InFile false phrases.none phrases.none)
-- behind these units, and the context of the next; a file may end where nothing but pragmas stands behind its last unit
rule (InFile ends context d) =
    Take classes.FileItem (λ first. Rest (FileItem (file_form first.token.kind) first ends context d))
    or When ends (leaves d) Never
rule (FileItem files.Pragma first ends context d) = Call Pragma (λ x. Rest (InFile ends context d))
rule (FileItem files.With first ends context d) =
    Call (UnitNames decls.With first.token.span context) (λ x. Rest (InFile false x.children d))
rule (FileItem files.Use first ends context d) =
    keyword words.Type (Call (UnitNames (decls.ContextUse true) first.token.span context) (λ x.
    Rest (InFile false x.children d)))
    or Call (UnitNames (decls.ContextUse false) first.token.span context) (λ x. Rest (InFile false x.children d))
rule (FileItem files.Package first ends context d) =
    Call (PackageUnit context d) (λ x. Rest (InFile true phrases.none x.children))
rule (FileItem files.Procedure first ends context d) =
    Call (MainUnit context d) (λ x. Rest (InFile true phrases.none x.children))
