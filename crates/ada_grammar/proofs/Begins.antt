-- With which tokens a body begins, and that it can be completed.
use Rattle.std.proofs.Common.{ℕ, zero, suc, ◌≡◌, ◌⊎◌, inl, inr, ℕ, Bool, true, false, ◌||◌, ◌&&◌, codes, List, [], ◌∷◌, ◌++◌, refl, sym, subst}
use Rattle.ada_tree.specs.declared.expressions.LogicalOperator.{LogicalOperator}
use Rattle.ada_tree.specs.declared.expressions.LogicalOperator.TheVariants as logical
use Rattle.ada_tree.specs.declared.token.Mark.TheVariants as marks
use Rattle.ada_tree.specs.declared.token.TokenKind.{TokenKind}
use Rattle.ada_tree.specs.declared.token.TokenKind.TheVariants as kinds
use Rattle.ada_tree.specs.declared.words.Reserved.TheVariants as words
use Rattle.ada_grammar.specs.declared.tokens.Class.{Class}
use Rattle.ada_grammar.specs.declared.tokens.Class.TheVariants as classes
use Rattle.ada_tree.specs.Identifiers.{mode_of, role_of}
use Rattle.ada_grammar.specs.Sorts.{Sort, is_in}
use Rattle.ada_grammar.specs.Lexemes.{Lexeme, sort}
use Rattle.spark_base.specs.declared.numbers.Span.{Span}
use Rattle.ada_tree.specs.declared.aspects.AspectKind.{AspectKind}
use Rattle.ada_tree.specs.declared.declarations.DeclKind.{DeclKind}
use Rattle.ada_tree.specs.declared.declarations.Head.{Head}
use Rattle.ada_tree.specs.declared.statements.StmtKind.{StmtKind}
use Rattle.ada_tree.specs.declared.units.UnitKind.{UnitKind}
use Rattle.ada_tree.specs.declared.forms.Definition.{Definition}
use Rattle.ada_tree.specs.declared.forms.Definition.TheVariants as definitions
use Rattle.ada_tree.specs.declared.forms.Listing.{Listing}
use Rattle.ada_tree.specs.declared.forms.Listing.TheVariants as listings
use Rattle.ada_tree.specs.declared.forms.Naming.{Naming}
use Rattle.ada_tree.specs.declared.forms.Naming.TheVariants as naming
use Rattle.ada_tree.specs.declared.forms.LocalForm.{LocalForm}
use Rattle.ada_tree.specs.declared.forms.LocalForm.TheVariants as locals
use Rattle.ada_tree.specs.declared.forms.DeclarationForm.{DeclarationForm}
use Rattle.ada_tree.specs.declared.forms.DeclarationForm.TheVariants as declarations
use Rattle.ada_tree.specs.declared.forms.OperationForm.{OperationForm}
use Rattle.ada_tree.specs.declared.forms.OperationForm.TheVariants as operations
use Rattle.ada_tree.specs.declared.forms.StatementForm.{StatementForm}
use Rattle.ada_tree.specs.declared.forms.StatementForm.TheVariants as statements
use Rattle.ada_tree.specs.declared.forms.CompoundForm.{CompoundForm}
use Rattle.ada_tree.specs.declared.forms.CompoundForm.TheVariants as compounds
use Rattle.ada_tree.specs.declared.forms.FileForm.{FileForm}
use Rattle.ada_tree.specs.declared.forms.FileForm.TheVariants as files
use Rattle.ada_tree.specs.declared.forms.Region.{Region}
use Rattle.ada_tree.specs.declared.forms.Region.TheVariants as regions
use Rattle.ada_tree.specs.declared.identifiers.AspectName.{AspectName}
use Rattle.ada_tree.specs.declared.identifiers.AspectName.TheVariants as aspect_names
use Rattle.ada_grammar.specs.Phrases as phrases
use Rattle.ada_grammar.specs.Phrases.{Children, Phrase, Tree, nowhere}
use Rattle.ada_grammar.specs.Parts.{Part, Expr, Continued, RestOfExpr, BehindAnd, BehindOr, Opened, Begun, Chain, Rel, RestOfRel, Membership, Simple, Signed, Sums, Term, Products, Factor, Powered, Primary, Parens, Condition, Arms, InParens, NamedFrom, BehindExpr, Items, LastItem, Association, Choices, Associations, Choice, Name, Suffixes, MayOpen, BehindTick, BehindAttribute, ValuesFrom, Values, ArgumentsFrom, Arguments, Argument, Drange, SubtypeRange, UnitName, Points, Indication, IndicationFrom, Balanced, SkippedTokens, Pragma, Aspects, OptionalAspects, BehindWith, MoreAspects, Aspect, AspectOf, Defined, Atomic, SkippedAspect, DefinitionOf, NullOrItems, ItemsFrom, MoreItems, GlobalDefinition, InGlobal, ModesFrom, MoreModes, DependsDefinition, Elements, MoreElements, Element, Dependency, Refinement, Initialization, RefinedDefinition, InitializesDefinition, PartOf, StatesDefinition, InStates, MoreStates, State, StateWithOptions, Closing, Names, BehindNames, Object, ObjectFrom, Component, Formal, FormalMark, LocalDeclarations, LocalDeclaration, UnitNames, MoreUnitNames, TypeDefinition, Literals, MoreLiterals, RangeType, ArrayType, Components, MoreComponents, Statements, MoreStatements, Statement, NamedStatement, BehindName, Labelled, If, MoreArms, EndIf, Case, MoreAlternatives, Alternative, MoreChoices, While, For, ForRange, LoopBody, Declare, BlockBody, EndOfStatement, Exit, Return, ProperBody, EndOfDeclaration, EndOfUnit, Formals, MoreFormals, Procedure, Function, FunctionResult, BehindHead, NullOrValue, AnyCompletion, ValueOrBody, Value, SubprogramBody, Task, TaskNamed, TaskDefinition, TaskInBody, TaskBody, Protected, ProtectedNamed, Operations, PrivateItems, Operation, Entry, ProtectedInBody, ProtectedBody, OperationBodies, OperationBody, EntryBody, Barrier, Declarations, Declaration, TaskIn, ProtectedIn, MainUnit, PackageUnit, SpecUnit, BodyUnit, File, InFile, FileItem, Body, Never, Gives, Take, Call, Rest, Or, When, word, mark}
use Rattle.ada_grammar.specs.Grammar.{rule}
use Rattle.ada_grammar.specs.Spelling.{Fits, gives, take, call, rest, left, right, yes, no, Spells}
use Rattle.ada_grammar.proofs.Firsts.{first_of, empties_of}
use Rattle.ada_grammar.proofs.EverySort.{all_sorts, and_left, and_right, by_sort, word_self, mark_self}

-- if the first test holds, the second does
abbrev pub only_if : Bool → Bool → Bool
only_if true b = b
only_if false b = true

pub or_either : (a b : Bool) → (a || b) ≡ true → (a ≡ true) ⊎ (b ≡ true)
or_either true b e = inl refl
or_either false b e = inr e

pub or_left : (a b : Bool) → a ≡ true → (a || b) ≡ true
or_left true b e = refl
or_left false b e = cc

pub or_right : (a b : Bool) → b ≡ true → (a || b) ≡ true
or_right true b e = refl
or_right false b e = e

pub holds : (a b : Bool) → only_if a b ≡ true → a ≡ true → b ≡ true
holds true b e h = e
holds false b e h = cc

-- all that is made of the phrases in a list
abbrev pub each : (Phrase → List Phrase) → List Phrase → List Phrase
each f [] = []
each f (a ∷ xs) = f a ++ each f xs

abbrev pub any : (Phrase → Bool) → List Phrase → Bool
any f [] = false
any f (a ∷ xs) = f a || any f xs

abbrev pub is_some : List Phrase → Bool
is_some [] = false
is_some (a ∷ xs) = true

-- the phrases that a body gives for no tokens
abbrev pub empties : Body → List Phrase
empties Never = []
empties (Gives y) = y ∷ []
empties (Take c k) = []
empties (Call p k) = each (λ a. empties (k a)) (empties_of p)
empties (Rest p) = empties_of p
empties (Or b c) = empties b ++ empties c
empties (When d b c) = empties b ++ empties c

abbrev pub null : Body → Bool
null b = is_some (empties b)

-- sorts of token that a body may begin with
abbrev pub first : Body → Sort → Bool
first Never s = false
first (Gives y) s = false
first (Take c k) s = is_in c s
first (Call p k) s = first_of p s || any (λ a. first (k a) s) (empties_of p)
first (Rest p) s = first_of p s
first (Or b c) s = first b s || first c s
first (When d b c) s = first b s || first c s

-- the tables of the grammar tell what its rules do
chain_empties : (o : LogicalOperator) (a : Phrase) → empties (rule (Chain o a)) ≡ empties_of (Chain o a)
chain_empties logical.And a = refl
chain_empties o a = refl

may_open_empties : (b : Bool) (a : Phrase) → empties (rule (MayOpen b a)) ≡ empties_of (MayOpen b a)
may_open_empties true a = refl
may_open_empties false a = refl

aspect_of_empties : (which : AspectName) (name : Lexeme) (d : Children) → empties (rule (AspectOf which name d)) ≡ empties_of (AspectOf which name d)
aspect_of_empties aspect_names.Global name d = refl
aspect_of_empties which name d = refl

definition_of_empties : (definition : Definition) (d : Children) → empties (rule (DefinitionOf definition d)) ≡ empties_of (DefinitionOf definition d)
definition_of_empties definitions.Global d = refl
definition_of_empties definition d = refl

element_empties : (of : Listing) (d : Children) → empties (rule (Element of d)) ≡ empties_of (Element of d)
element_empties listings.Dependencies d = refl
element_empties of d = refl

behind_names_empties : (what : Naming) (names : List Lexeme) (d : Children) → empties (rule (BehindNames what names d)) ≡ empties_of (BehindNames what names d)
behind_names_empties naming.Objects names d = refl
behind_names_empties what names d = refl

local_declaration_empties : (which : LocalForm) (first : Lexeme) (d : Children) → empties (rule (LocalDeclaration which first d)) ≡ empties_of (LocalDeclaration which first d)
local_declaration_empties locals.Type first d = refl
local_declaration_empties which first d = refl

statement_empties : (which : StatementForm) (first : Lexeme) (d : Children) → empties (rule (Statement which first d)) ≡ empties_of (Statement which first d)
statement_empties statements.Null first d = refl
statement_empties which first d = refl

labelled_empties : (which : CompoundForm) (first : Lexeme) (own : Children) (d : Children) → empties (rule (Labelled which first own d)) ≡ empties_of (Labelled which first own d)
labelled_empties compounds.While first own d = refl
labelled_empties which first own d = refl

behind_head_empties : (region : Region) (head : Head) (name : Lexeme) (own : Children) (d : Children) → empties (rule (BehindHead region head name own d)) ≡ empties_of (BehindHead region head name own d)
behind_head_empties regions.Spec head name own d = refl
behind_head_empties region head name own d = refl

operation_empties : (which : OperationForm) (first : Lexeme) (d : Children) → empties (rule (Operation which first d)) ≡ empties_of (Operation which first d)
operation_empties operations.Procedure first d = refl
operation_empties which first d = refl

operation_body_empties : (which : OperationForm) (d : Children) → empties (rule (OperationBody which d)) ≡ empties_of (OperationBody which d)
operation_body_empties operations.Function d = refl
operation_body_empties which d = refl

declaration_empties : (region : Region) (which : DeclarationForm) (first : Lexeme) (d : Children) → empties (rule (Declaration region which first d)) ≡ empties_of (Declaration region which first d)
declaration_empties region declarations.Procedure first d = refl
declaration_empties region which first d = refl

task_in_empties : (region : Region) (d : Children) → empties (rule (TaskIn region d)) ≡ empties_of (TaskIn region d)
task_in_empties regions.Body d = refl
task_in_empties region d = refl

protected_in_empties : (region : Region) (d : Children) → empties (rule (ProtectedIn region d)) ≡ empties_of (ProtectedIn region d)
protected_in_empties regions.Body d = refl
protected_in_empties region d = refl

file_item_empties : (which : FileForm) (first : Lexeme) (ends : Bool) (context : Children) (d : Children) → empties (rule (FileItem which first ends context d)) ≡ empties_of (FileItem which first ends context d)
file_item_empties files.Pragma first ends context d = refl
file_item_empties which first ends context d = refl

empties_table : (p : Part) → empties (rule p) ≡ empties_of p
empties_table (Chain o a) = chain_empties o a
empties_table (MayOpen b a) = may_open_empties b a
empties_table (AspectOf which name d) = aspect_of_empties which name d
empties_table (DefinitionOf definition d) = definition_of_empties definition d
empties_table (Element of d) = element_empties of d
empties_table (BehindNames what names d) = behind_names_empties what names d
empties_table (LocalDeclaration which first d) = local_declaration_empties which first d
empties_table (Statement which first d) = statement_empties which first d
empties_table (Labelled which first own d) = labelled_empties which first own d
empties_table (BehindHead region head name own d) = behind_head_empties region head name own d
empties_table (Operation which first d) = operation_empties which first d
empties_table (OperationBody which d) = operation_body_empties which d
empties_table (Declaration region which first d) = declaration_empties region which first d
empties_table (TaskIn region d) = task_in_empties region d
empties_table (ProtectedIn region d) = protected_in_empties region d
empties_table (FileItem which first ends context d) = file_item_empties which first ends context d
empties_table Expr = refl
empties_table p = refl

abbrev FirstTable : Part → Type 0
FirstTable p = all_sorts (λ s. only_if (first (rule p) s) (first_of p s)) ≡ true

chain_first : (o : LogicalOperator) (a : Phrase) → FirstTable (Chain o a)
chain_first logical.And a = refl
chain_first o a = refl

suffixes_first : (b : Bool) (a : Phrase) → FirstTable (Suffixes b a)
suffixes_first true a = refl
suffixes_first false a = refl

may_open_first : (b : Bool) (a : Phrase) → FirstTable (MayOpen b a)
may_open_first true a = refl
may_open_first false a = refl

aspect_of_first : (which : AspectName) (name : Lexeme) (d : Children) → FirstTable (AspectOf which name d)
aspect_of_first aspect_names.Global name d = refl
aspect_of_first which name d = refl

definition_of_first : (definition : Definition) (d : Children) → FirstTable (DefinitionOf definition d)
definition_of_first definitions.Global d = refl
definition_of_first definition d = refl

element_first : (of : Listing) (d : Children) → FirstTable (Element of d)
element_first listings.Dependencies d = refl
element_first of d = refl

behind_names_first : (what : Naming) (names : List Lexeme) (d : Children) → FirstTable (BehindNames what names d)
behind_names_first naming.Objects names d = refl
behind_names_first what names d = refl

local_declaration_first : (which : LocalForm) (first : Lexeme) (d : Children) → FirstTable (LocalDeclaration which first d)
local_declaration_first locals.Type first d = refl
local_declaration_first which first d = refl

statement_first : (which : StatementForm) (first : Lexeme) (d : Children) → FirstTable (Statement which first d)
statement_first statements.Null first d = refl
statement_first which first d = refl

labelled_first : (which : CompoundForm) (first : Lexeme) (own : Children) (d : Children) → FirstTable (Labelled which first own d)
labelled_first compounds.While first own d = refl
labelled_first which first own d = refl

behind_head_first : (region : Region) (head : Head) (name : Lexeme) (own : Children) (d : Children) → FirstTable (BehindHead region head name own d)
behind_head_first regions.Spec head name own d = refl
behind_head_first region head name own d = refl

operation_first : (which : OperationForm) (first : Lexeme) (d : Children) → FirstTable (Operation which first d)
operation_first operations.Procedure first d = refl
operation_first which first d = refl

operation_body_first : (which : OperationForm) (d : Children) → FirstTable (OperationBody which d)
operation_body_first operations.Function d = refl
operation_body_first which d = refl

declaration_first : (region : Region) (which : DeclarationForm) (first : Lexeme) (d : Children) → FirstTable (Declaration region which first d)
declaration_first region declarations.Procedure first d = refl
declaration_first region which first d = refl

task_in_first : (region : Region) (d : Children) → FirstTable (TaskIn region d)
task_in_first regions.Body d = refl
task_in_first region d = refl

protected_in_first : (region : Region) (d : Children) → FirstTable (ProtectedIn region d)
protected_in_first regions.Body d = refl
protected_in_first region d = refl

file_item_first : (which : FileForm) (first : Lexeme) (ends : Bool) (context : Children) (d : Children) → FirstTable (FileItem which first ends context d)
file_item_first files.Pragma first ends context d = refl
file_item_first which first ends context d = refl

first_table : (p : Part) → FirstTable p
first_table (Chain o a) = chain_first o a
first_table (Suffixes b a) = suffixes_first b a
first_table (MayOpen b a) = may_open_first b a
first_table (AspectOf which name d) = aspect_of_first which name d
first_table (DefinitionOf definition d) = definition_of_first definition d
first_table (Element of d) = element_first of d
first_table (BehindNames what names d) = behind_names_first what names d
first_table (LocalDeclaration which first d) = local_declaration_first which first d
first_table (Statement which first d) = statement_first which first d
first_table (Labelled which first own d) = labelled_first which first own d
first_table (BehindHead region head name own d) = behind_head_first region head name own d
first_table (Operation which first d) = operation_first which first d
first_table (OperationBody which d) = operation_body_first which d
first_table (Declaration region which first d) = declaration_first region which first d
first_table (TaskIn region d) = task_in_first region d
first_table (ProtectedIn region d) = protected_in_first region d
first_table (FileItem which first ends context d) = file_item_first which first ends context d
first_table Expr = refl
first_table p = refl

-- a phrase in a list
abbrev pub Has : Phrase → List Phrase → Type 0
Has y [] = ⊥
Has y (x ∷ xs) = (x ≡ y) ⊎ Has y xs

has_left : (y : Phrase) (xs ys : List Phrase) → Has y xs → Has y (xs ++ ys)
has_left y [] ys h = absurd h
has_left y (x ∷ xs) ys (inl e) = inl e
has_left y (x ∷ xs) ys (inr h) = inr (has_left y xs ys h)

has_right : (y : Phrase) (xs ys : List Phrase) → Has y ys → Has y (xs ++ ys)
has_right y [] ys h = h
has_right y (x ∷ xs) ys h = inr (has_right y xs ys h)

has_each : (f : Phrase → List Phrase) (y a : Phrase) (xs : List Phrase) → Has a xs → Has y (f a) → Has y (each f xs)
has_each f y a [] h g = absurd h
has_each f y a (x ∷ xs) (inl e) g = has_left y (f x) (each f xs) (subst (λ (z : Phrase). Has y (f z)) (sym e) g)
has_each f y a (x ∷ xs) (inr h) g = has_right y (f x) (each f xs) (has_each f y a xs h g)

any_has : (f : Phrase → Bool) (a : Phrase) (xs : List Phrase) → Has a xs → f a ≡ true → any f xs ≡ true
any_has f a [] h e = absurd h
any_has f a (x ∷ xs) (inl i) e = or_left (f x) (any f xs) (subst (λ (z : Phrase). f z ≡ true) (sym i) e)
any_has f a (x ∷ xs) (inr h) e = or_right (f x) (any f xs) (any_has f a xs h e)

some_has : (y : Phrase) (xs : List Phrase) → Has y xs → is_some xs ≡ true
some_has y [] h = absurd h
some_has y (x ∷ xs) h = refl

nil_left : (u v : List Lexeme) → u ++ v ≡ [] → u ≡ []
nil_left [] v e = refl
nil_left (t ∷ u) v e = cc

nil_right : (u v : List Lexeme) → u ++ v ≡ [] → v ≡ []
nil_right [] v e = e
nil_right (t ∷ u) v e = cc

-- what fits no tokens is among the phrases for no tokens
empty : {b : Body} {y : Phrase} {w : List Lexeme} → Fits b y w → w ≡ [] → Has y (empties b)
empty gives e = inl refl
empty (take is h) e = cc
empty (call {p} {rest = k} {a} {y} {u} {v} h g) e =
    has_each (λ a. empties (k a)) y a (empties_of p) (subst (λ (z : List Phrase). Has a z) (empties_table p) (empty h (nil_left u v e))) (empty g (nil_right u v e))
empty (rest {p} {y} h) e = subst (λ (z : List Phrase). Has y z) (empties_table p) (empty h e)
empty (left {b} {c} {y} h) e = has_left y (empties b) (empties c) (empty h e)
empty (right {b} {c} {y} h) e = has_right y (empties b) (empties c) (empty h e)
empty (yes {b} {c} {y} h) e = has_left y (empties b) (empties c) (empty h e)
empty (no {b} {c} {y} h) e = has_right y (empties b) (empties c) (empty h e)

first_in_table : (p : Part) (s : Sort) → first (rule p) s ≡ true → first_of p s ≡ true
first_in_table p s h = holds (first (rule p) s) (first_of p s) (by_sort (λ s. only_if (first (rule p) s) (first_of p s)) (first_table p) s) h

abbrev pub Starts : Body → List Lexeme → Type 0
Starts b [] = null b ≡ true
Starts b (t ∷ w) = first b (sort t) ≡ true

-- the second part begins where the first has no tokens
starts_second : (p : Part) (k : Phrase → Body) (a : Phrase) (u v : List Lexeme) → Has a (empties_of p) → u ≡ [] → Starts (k a) v → (t : Lexeme) (w : List Lexeme) → u ++ v ≡ t ∷ w → first (Call p k) (sort t) ≡ true
starts_second p k a u v h nil s t w e =
    let same : v ≡ t ∷ w = subst (λ (z : List Lexeme). z ++ v ≡ t ∷ w) nil e in
    or_right (first_of p (sort t)) (any (λ a. first (k a) (sort t)) (empties_of p)) (any_has (λ a. first (k a) (sort t)) a (empties_of p) h (subst (λ (z : List Lexeme). Starts (k a) z) same s))

starts_call : (p : Part) (k : Phrase → Body) (a y : Phrase) (u v : List Lexeme) → Fits (rule p) a u → Fits (k a) y v → Starts (rule p) u → Starts (k a) v → Starts (Call p k) (u ++ v)
starts_call p k a y [] [] h g s r = some_has y (empties (Call p k)) (empty (call {p = p} {rest = k} h g) refl)
starts_call p k a y [] (t ∷ v) h g s r = starts_second p k a [] (t ∷ v) (subst (λ (z : List Phrase). Has a z) (empties_table p) (empty h refl)) refl r t v refl
starts_call p k a y (t ∷ u) v h g s r = or_left (first_of p (sort t)) (any (λ a. first (k a) (sort t)) (empties_of p)) (first_in_table p (sort t) s)

starts_rest : (p : Part) (y : Phrase) (w : List Lexeme) → Fits (rule p) y w → Starts (rule p) w → Starts (Rest p) w
starts_rest p y [] h s = some_has y (empties (Rest p)) (empty (rest {p = p} h) refl)
starts_rest p y (t ∷ w) h s = first_in_table p (sort t) s

starts_left : (b c : Body) (y : Phrase) (w : List Lexeme) → Fits (Or b c) y w → Starts b w → Starts (Or b c) w
starts_left b c y [] h s = some_has y (empties (Or b c)) (empty h refl)
starts_left b c y (t ∷ w) h s = or_left (first b (sort t)) (first c (sort t)) s

starts_right : (b c : Body) (y : Phrase) (w : List Lexeme) → Fits (Or b c) y w → Starts c w → Starts (Or b c) w
starts_right b c y [] h s = some_has y (empties (Or b c)) (empty h refl)
starts_right b c y (t ∷ w) h s = or_right (first b (sort t)) (first c (sort t)) s

-- what fits begins with a sort that the body may begin with
pub starts : {b : Body} {y : Phrase} {w : List Lexeme} → Fits b y w → Starts b w
starts gives = refl
starts (take e h) = e
starts (call {p} {rest = k} {a} {y} {u} {v} h g) = starts_call p k a y u v h g (starts h) (starts g)
starts (rest {p} {y} {w} h) = starts_rest p y w h (starts h)
starts (left {b} {c} {y} {w} h) = starts_left b c y w (left h) (starts h)
starts (right {b} {c} {y} {w} h) = starts_right b c y w (right h) (starts h)
starts (yes {b} {c} {y} {w} h) = starts_left b c y w (left h) (starts h)
starts (no {b} {c} {y} {w} h) = starts_right b c y w (right h) (starts h)

-- a token of each class
abbrev kind_of : Class → TokenKind
kind_of classes.Word = kinds.Word
kind_of classes.Number = kinds.Number 0
kind_of (classes.Reserved w) = kinds.Reserved w
kind_of (classes.Mark m) = kinds.Mark m
kind_of classes.Relational = kinds.Mark marks.Less
kind_of classes.Adding = kinds.Mark marks.Plus
kind_of classes.Multiplying = kinds.Mark marks.Star
kind_of classes.AttributeName = kinds.Word
kind_of classes.Mode = kinds.Word
kind_of classes.True = kinds.Word
kind_of classes.Statement = kinds.Reserved words.Null
kind_of classes.Compound = kinds.Reserved words.Begin
kind_of classes.LocalDeclaration = kinds.Word
kind_of classes.Declaration = kinds.Word
kind_of classes.Operation = kinds.Reserved words.Procedure
kind_of classes.OperationBody = kinds.Reserved words.Procedure
kind_of classes.PrivateItem = kinds.Reserved words.Procedure
kind_of classes.FileItem = kinds.Reserved words.Procedure
kind_of classes.Enclosed = kinds.Word
kind_of classes.Skipped = kinds.Word

abbrev text_for : Class → List ℕ
text_for classes.Mode = codes "input"
text_for classes.True = codes "true"
text_for c = []

abbrev pub token : Class → Lexeme
token c = record { token = record { kind = kind_of c; span = nowhere; from = 0; to = 0 }; text = text_for c }

pub token_is : (c : Class) → is_in c (sort (token c)) ≡ true
unfolding role_of mode_of
token_is (classes.Reserved w) = word_self w
token_is (classes.Mark m) = mark_self m
token_is classes.Word = refl
token_is c = refl

abbrev pub close : Lexeme
close = token (mark marks.Close)

abbrev pub number : Phrase
number = phrases.number (token classes.Number)

-- a sentence of a part
pub record Sample (p : Part) : Type 0 where
  pub phrase : Phrase
  pub word : List Lexeme
  pub spells : Spells p phrase word

abbrev some : {p : Part} {y : Phrase} {w : List Lexeme} → Spells p y w → Sample p
some {p} {y} {w} h = record { phrase = y; word = w; spells = h }

pub takes : {c : Class} {k : Lexeme → Body} {y : Phrase} {w : List Lexeme} → Fits (k (token c)) y w → Fits (Take c k) y (token c ∷ w)
takes {c} h = take (token_is c) h

pub calls : {p : Part} {k : Phrase → Body} {y : Phrase} {w : List Lexeme} (s : Sample p) → Fits (k s.phrase) y w → Fits (Call p k) y (s.word ++ w)
calls s h = call s.spells h

pub rests : {p : Part} (s : Sample p) → Fits (Rest p) s.phrase s.word
rests s = rest s.spells

pub decides : (m : Bool) {b c : Body} {y : Phrase} {w : List Lexeme} → Fits b y w → Fits c y w → Fits (When m b c) y w
decides true h g = yes h
decides false h g = no g

abbrev one : List Lexeme
one = token classes.Number ∷ []

sample_primary : Spells Primary number one
sample_primary = left (take refl gives)

sample_powered : Spells Powered number one
sample_powered = call sample_primary (right gives)

sample_factor : Spells Factor number one
sample_factor = right (right (rest sample_powered))

sample_term : Spells Term number one
sample_term = call sample_factor (rest (right gives))

sample_signed : Spells Signed number one
sample_signed = right (rest sample_term)

pub sample_simple : Spells Simple number one
sample_simple = call sample_signed (rest (right gives))

sample_rest_of_rel : (a : Phrase) → Spells (RestOfRel a) a []
sample_rest_of_rel a = right (right (right gives))

sample_continued : (a : Phrase) → Spells (Continued a) a []
sample_continued a = call (sample_rest_of_rel a) (rest (right (right (right gives))))

sample_rel : Spells Rel number one
sample_rel = call sample_simple (rest (sample_rest_of_rel number))

pub sample_expr : Spells Expr number one
sample_expr = call sample_simple (rest (sample_continued number))

sample_begun : (o : LogicalOperator) (a : Phrase) (t : Lexeme) → Spells (Begun o a t) (phrases.logical o t a number) one
sample_begun o a t = call sample_rel gives

sample_chain : (o : LogicalOperator) (a : Phrase) → Spells (Chain o a) a []
sample_chain logical.And a = right gives
sample_chain logical.AndThen a = right gives
sample_chain logical.Or a = right gives
sample_chain logical.OrElse a = right gives
sample_chain logical.Xor a = right gives

sample_opened : (o : LogicalOperator) (a : Phrase) (t : Lexeme) → Spells (Opened o a t) (phrases.logical o t a number) one
sample_opened o a t = call (sample_begun o a t) (rest (sample_chain o (phrases.logical o t a number)))

abbrev else_number : List Lexeme
else_number = token (word words.Else) ∷ one

sample_arms : (t : Lexeme) (arms : List Tree) → Spells (Arms t arms) (phrases.conditional t arms number) else_number
sample_arms t arms = right (take refl (call sample_expr gives))

abbrev arrow_number : List Lexeme
arrow_number = token (mark marks.Arrow) ∷ one

sample_in_parens : (o : Lexeme) → Spells (InParens o) (phrases.parenthesized o number close) (token classes.Number ∷ close ∷ [])
sample_in_parens o = right (call sample_simple (right (call (sample_continued number) (rest (left (take refl gives))))))

sample_may_open : (b : Bool) (a : Phrase) → Spells (MayOpen b a) a []
sample_may_open true a = right gives
sample_may_open false a = gives

pub sample_suffixes : (b : Bool) (a : Phrase) → Spells (Suffixes b a) a []
sample_suffixes b a = right (right (rest (sample_may_open b a)))

sample_argument : Spells Argument (phrases.argument number) one
sample_argument = call sample_expr (no gives)

pub sample_unit_name : Spells UnitName (phrases.identifier (token classes.Word)) (token classes.Word ∷ [])
sample_unit_name = takes (rest (right gives))

pub sample_indication : Spells Indication (phrases.indication (phrases.identifier (token classes.Word))) (token classes.Word ∷ [])
sample_indication = call sample_unit_name (rest (right gives))

abbrev some_name : (a : Phrase) → Sample (Suffixes true a)
some_name a = some (sample_suffixes true a)

pub sample_choice : Spells Choice (phrases.others_choice (token (word words.Others))) (token (word words.Others) ∷ [])
sample_choice = left (takes gives)

pub sample_drange : Spells Drange (phrases.bounds_range number number) (token classes.Number ∷ token (mark marks.Dots) ∷ one)
sample_drange = call sample_simple (left (takes (call sample_simple gives)))

abbrev sample_balanced : (n : ℕ) → Sample (Balanced n)
sample_balanced zero = some (right (right (takes (yes gives))))
sample_balanced (suc n) = some (right (right (takes (no (rests (sample_balanced n))))))

abbrev sample_skipped_tokens : Sample SkippedTokens
sample_skipped_tokens = some (right (right gives))

abbrev sample_pragma : Sample Pragma
sample_pragma = some (takes (right (takes gives)))

abbrev sample_optional_aspects : (d : Children) → Sample (OptionalAspects d)
sample_optional_aspects d = some (right gives)

abbrev sample_more_aspects : (d : Children) → Sample (MoreAspects d)
sample_more_aspects d = some (right gives)

abbrev sample_atomic : (name : Lexeme) (d : Children) → Sample (Atomic name d)
sample_atomic name d = some (right gives)

abbrev sample_skipped_aspect : (defined : AspectKind) (alone : AspectKind) (name : Lexeme) (d : Children) → Sample (SkippedAspect defined alone name d)
sample_skipped_aspect defined alone name d = some (right gives)

abbrev sample_null_or_items : (d : Children) → Sample (NullOrItems d)
sample_null_or_items d = some (left (takes gives))

abbrev sample_more_items : (span : Span) (items : Children) (d : Children) → Sample (MoreItems span items d)
sample_more_items span items d = some (right (takes gives))

abbrev sample_global_definition : (d : Children) → Sample (GlobalDefinition d)
sample_global_definition d = some (left (takes gives))

abbrev sample_more_modes : (d : Children) → Sample (MoreModes d)
sample_more_modes d = some (right (takes gives))

abbrev sample_depends_definition : (d : Children) → Sample (DependsDefinition d)
sample_depends_definition d = some (left (takes gives))

abbrev sample_more_elements : (of : Listing) (d : Children) → Sample (MoreElements of d)
sample_more_elements of d = some (right (takes gives))

abbrev sample_dependency : (d : Children) → Sample (Dependency d)
sample_dependency d = some (calls (sample_null_or_items _) (takes (right (calls (sample_null_or_items _) gives))))

abbrev sample_refinement : (d : Children) → Sample (Refinement d)
sample_refinement d = some (takes (calls (some_name _) (takes (calls (sample_null_or_items _) gives))))

abbrev sample_initialization : (d : Children) → Sample (Initialization d)
sample_initialization d = some (takes (calls (some_name _) (right gives)))

abbrev sample_initializes_definition : (d : Children) → Sample (InitializesDefinition d)
sample_initializes_definition d = some (left (takes gives))

abbrev sample_part_of : (d : Children) → Sample (PartOf d)
sample_part_of d = some (takes (calls (some_name _) gives))

abbrev sample_states_definition : (d : Children) → Sample (StatesDefinition d)
sample_states_definition d = some (left (takes gives))

abbrev sample_more_states : (d : Children) → Sample (MoreStates d)
sample_more_states d = some (right (takes gives))

abbrev sample_state : (d : Children) → Sample (State d)
sample_state d = some (left (takes gives))

abbrev sample_state_with_options : (d : Children) → Sample (StateWithOptions d)
sample_state_with_options d = some (takes (takes (calls (sample_balanced _) gives)))

abbrev sample_closing : (kind : DeclKind) (names : List Lexeme) (own : Children) (d : Children) → Sample (Closing kind names own d)
sample_closing kind names own d = some (right (takes gives))

abbrev sample_object_from : (constant : Bool) (names : List Lexeme) (d : Children) → Sample (ObjectFrom constant names d)
sample_object_from constant names d = some (calls (some sample_indication) (right (rests (sample_closing _ _ _ _))))

abbrev sample_component : (names : List Lexeme) (d : Children) → Sample (Component names d)
sample_component names d = some (calls (some sample_indication) (right (takes gives)))

abbrev sample_formal_mark : (kind : DeclKind) (names : List Lexeme) (d : Children) → Sample (FormalMark kind names d)
sample_formal_mark kind names d = some (calls (some sample_unit_name) gives)

abbrev sample_local_declarations : (d : Children) → Sample (LocalDeclarations d)
sample_local_declarations d = some (right gives)

abbrev sample_more_unit_names : (kind : DeclKind) (span : Span) (own : Children) (d : Children) → Sample (MoreUnitNames kind span own d)
sample_more_unit_names kind span own d = some (right (takes gives))

abbrev sample_type_definition : (name : Lexeme) (d : Children) → Sample (TypeDefinition name d)
sample_type_definition name d = some (right (right (right (right (right (left (takes (rests (sample_closing _ _ _ _)))))))))

abbrev sample_more_literals : (name : Lexeme) (own : Children) (d : Children) → Sample (MoreLiterals name own d)
sample_more_literals name own d = some (right (takes (rests (sample_closing _ _ _ _))))

abbrev sample_range_type : (name : Lexeme) (d : Children) → Sample (RangeType name d)
sample_range_type name d = some (calls (some sample_simple) (takes (calls (some sample_simple) (rests (sample_closing _ _ _ _)))))

abbrev sample_array_type : (name : Lexeme) (d : Children) → Sample (ArrayType name d)
sample_array_type name d = some (takes (calls (some sample_drange) (takes (takes (calls (some sample_unit_name) (rests (sample_closing _ _ _ _)))))))

abbrev sample_more_components : (name : Lexeme) (own : Children) (d : Children) → Sample (MoreComponents name own d)
sample_more_components name own d = some (right (takes (takes (rests (sample_closing _ _ _ _)))))

abbrev sample_more_statements : (span : Span) (own : Children) (d : Children) → Sample (MoreStatements span own d)
sample_more_statements span own d = some (right gives)

abbrev sample_behind_name : (span : Span) (own : Children) (d : Children) → Sample (BehindName span own d)
sample_behind_name span own d = some (right (takes gives))

abbrev sample_end_if : (kind : StmtKind) (span : Span) (own : Children) (d : Children) → Sample (EndIf kind span own d)
sample_end_if kind span own d = some (takes (takes (takes gives)))

abbrev sample_more_alternatives : (span : Span) (own : Children) (d : Children) → Sample (MoreAlternatives span own d)
sample_more_alternatives span own d = some (right (takes (takes (takes gives))))

abbrev sample_end_of_statement : (kind : StmtKind) (span : Span) (own : Children) (d : Children) → Sample (EndOfStatement kind span own d)
sample_end_of_statement kind span own d = some (right (takes gives))

abbrev sample_exit : (first : Lexeme) (d : Children) → Sample (Exit first d)
sample_exit first d = some (right (right (takes gives)))

abbrev sample_return : (first : Lexeme) (d : Children) → Sample (Return first d)
sample_return first d = some (left (takes gives))

abbrev sample_end_of_declaration : (kind : DeclKind) (name : Lexeme) (own : Children) (d : Children) → Sample (EndOfDeclaration kind name own d)
sample_end_of_declaration kind name own d = some (right (takes gives))

abbrev sample_end_of_unit : (kind : UnitKind) (name : Lexeme) (own : Children) (d : Children) → Sample (EndOfUnit kind name own d)
sample_end_of_unit kind name own d = some (right (takes gives))

abbrev sample_more_formals : (d : Children) → Sample (MoreFormals d)
sample_more_formals d = some (right (takes gives))

abbrev sample_null_or_value : (head : Head) (name : Lexeme) (own : Children) (d : Children) → Sample (NullOrValue head name own d)
sample_null_or_value head name own d = some (left (takes (rests (sample_closing _ _ _ _))))

abbrev sample_any_completion : (head : Head) (name : Lexeme) (own : Children) (d : Children) → Sample (AnyCompletion head name own d)
sample_any_completion head name own d = some (left (takes (rests (sample_closing _ _ _ _))))

abbrev sample_value : (head : Head) (name : Lexeme) (own : Children) (d : Children) → Sample (Value head name own d)
sample_value head name own d = some (calls (some sample_expr) (takes (rests (sample_closing _ _ _ _))))

abbrev sample_task_named : (is_type : Bool) (d : Children) → Sample (TaskNamed is_type d)
sample_task_named is_type d = some (takes (calls (sample_optional_aspects _) (right (takes gives))))

abbrev sample_task_definition : (kind : DeclKind) (name : Lexeme) (own : Children) (d : Children) → Sample (TaskDefinition kind name own d)
sample_task_definition kind name own d = some (right (takes (rests (sample_end_of_declaration _ _ _ _))))

abbrev sample_operations : (d : Children) → Sample (Operations d)
sample_operations d = some (right gives)

abbrev sample_private_items : (d : Children) → Sample (PrivateItems d)
sample_private_items d = some (right gives)

abbrev sample_entry : (d : Children) → Sample (Entry d)
sample_entry d = some (takes (right (rests (sample_closing _ _ _ _))))

abbrev sample_operation_bodies : (d : Children) → Sample (OperationBodies d)
sample_operation_bodies d = some (right gives)

abbrev sample_declarations : (region : Region) (d : Children) → Sample (Declarations region d)
sample_declarations region d = some (right gives)

abbrev sample_spec_unit : (own : Children) (d : Children) → Sample (SpecUnit own d)
sample_spec_unit own d = some (takes (calls (sample_optional_aspects _) (takes (calls (sample_declarations _ _) (right (takes (rests (sample_end_of_unit _ _ _ _))))))))

abbrev sample_body_unit : (own : Children) (d : Children) → Sample (BodyUnit own d)
sample_body_unit own d = some (takes (calls (sample_optional_aspects _) (takes (calls (sample_declarations _ _) (right (takes (rests (sample_end_of_unit _ _ _ _))))))))

abbrev sample_items_from : (span : Span) (name : Lexeme) (d : Children) → Sample (ItemsFrom span name d)
sample_items_from span name d = some (calls (some_name _) (rests (sample_more_items _ _ _)))

abbrev sample_in_global : (span : Span) (name : Lexeme) (d : Children) → Sample (InGlobal span name d)
sample_in_global span name d = some (decides _ (right (rests (sample_items_from _ _ _))) (rests (sample_items_from _ _ _)))

abbrev sample_modes_from : (name : Lexeme) (d : Children) → Sample (ModesFrom name d)
sample_modes_from name d = some (calls (sample_null_or_items _) (rests (sample_more_modes _)))

abbrev sample_element : (of : Listing) (d : Children) → Sample (Element of d)
sample_element listings.Dependencies d = some (rests (sample_dependency _))
sample_element listings.Refinements d = some (rests (sample_refinement _))
sample_element listings.Initializations d = some (rests (sample_initialization _))

abbrev sample_in_states : (d : Children) → Sample (InStates d)
sample_in_states d = some (left (takes (right (rests (sample_more_states _)))))

abbrev sample_object : (names : List Lexeme) (d : Children) → Sample (Object names d)
sample_object names d = some (right (rests (sample_object_from _ _ _)))

abbrev sample_formal : (names : List Lexeme) (d : Children) → Sample (Formal names d)
sample_formal names d = some (right (right (rests (sample_formal_mark _ _ _))))

abbrev sample_unit_names : (kind : DeclKind) (span : Span) (d : Children) → Sample (UnitNames kind span d)
sample_unit_names kind span d = some (calls (some sample_unit_name) (rests (sample_more_unit_names _ _ _ _)))

abbrev sample_literals : (name : Lexeme) (d : Children) → Sample (Literals name d)
sample_literals name d = some (takes (rests (sample_more_literals _ _ _)))

abbrev sample_statements : (d : Children) → Sample (Statements d)
sample_statements d = some (takes (call (takes gives) (rests (sample_more_statements _ _ _))))

abbrev sample_named_statement : (first : Lexeme) (d : Children) → Sample (NamedStatement first d)
sample_named_statement first d = some (right (calls (some_name _) (rests (sample_behind_name _ _ _))))

abbrev sample_more_arms : (span : Span) (own : Children) (d : Children) → Sample (MoreArms span own d)
sample_more_arms span own d = some (right (right (rests (sample_end_if _ _ _ _))))

abbrev sample_more_choices : (span : Span) (own : Children) (d : Children) → Sample (MoreChoices span own d)
sample_more_choices span own d = some (right (takes (calls (sample_statements _) gives)))

abbrev sample_loop_body : (kind : StmtKind) (span : Span) (own : Children) (d : Children) → Sample (LoopBody kind span own d)
sample_loop_body kind span own d = some (calls (sample_statements _) (takes (takes (rests (sample_end_of_statement _ _ _ _)))))

abbrev sample_block_body : (kind : StmtKind) (span : Span) (own : Children) (d : Children) → Sample (BlockBody kind span own d)
sample_block_body kind span own d = some (calls (sample_statements _) (takes (rests (sample_end_of_statement _ _ _ _))))

abbrev sample_proper_body : (d : Children) → Sample (ProperBody d)
sample_proper_body d = some (calls (sample_local_declarations _) (takes (calls (sample_statements _) (takes gives))))

abbrev sample_value_or_body : (head : Head) (name : Lexeme) (own : Children) (d : Children) → Sample (ValueOrBody head name own d)
sample_value_or_body head name own d = some (left (takes (rests (sample_value _ _ _ _))))

abbrev sample_subprogram_body : (head : Head) (name : Lexeme) (own : Children) (d : Children) → Sample (SubprogramBody head name own d)
sample_subprogram_body head name own d = some (calls (sample_proper_body _) (rests (sample_end_of_declaration _ _ _ _)))

abbrev sample_task : (d : Children) → Sample (Task d)
sample_task d = some (right (rests (sample_task_named _ _)))

abbrev sample_task_in_body : (d : Children) → Sample (TaskInBody d)
sample_task_in_body d = some (right (rests (sample_task _)))

abbrev sample_task_body : (d : Children) → Sample (TaskBody d)
sample_task_body d = some (takes (calls (sample_optional_aspects _) (takes (calls (sample_proper_body _) (rests (sample_end_of_declaration _ _ _ _))))))

abbrev sample_protected_named : (is_type : Bool) (d : Children) → Sample (ProtectedNamed is_type d)
sample_protected_named is_type d = some (takes (calls (sample_optional_aspects _) (takes (calls (sample_operations _) (right (takes (rests (sample_end_of_declaration _ _ _ _))))))))

abbrev sample_protected_body : (d : Children) → Sample (ProtectedBody d)
sample_protected_body d = some (takes (calls (sample_optional_aspects _) (takes (calls (sample_operation_bodies _) (takes (rests (sample_end_of_declaration _ _ _ _)))))))

abbrev sample_barrier : (has_formals : Bool) (name : Lexeme) (own : Children) (d : Children) → Sample (Barrier has_formals name own d)
sample_barrier has_formals name own d = some (takes (calls (some sample_expr) (takes (calls (sample_proper_body _) (rests (sample_end_of_declaration _ _ _ _))))))

abbrev sample_task_in : (region : Region) (d : Children) → Sample (TaskIn region d)
sample_task_in regions.Body d = some (rests (sample_task_in_body _))
sample_task_in region d = some (rests (sample_task _))

abbrev sample_main_unit : (own : Children) (d : Children) → Sample (MainUnit own d)
sample_main_unit own d = some (takes (calls (sample_optional_aspects _) (takes (calls (sample_proper_body _) (rests (sample_end_of_unit _ _ _ _))))))

abbrev sample_package_unit : (own : Children) (d : Children) → Sample (PackageUnit own d)
sample_package_unit own d = some (right (rests (sample_spec_unit _ _)))

abbrev sample_elements : (of : Listing) (d : Children) → Sample (Elements of d)
sample_elements of d = some (calls (sample_element _ _) (rests (sample_more_elements _ _)))

abbrev sample_refined_definition : (d : Children) → Sample (RefinedDefinition d)
sample_refined_definition d = some (takes (rests (sample_elements _ _)))

abbrev sample_behind_names : (what : Naming) (names : List Lexeme) (d : Children) → Sample (BehindNames what names d)
sample_behind_names naming.Objects names d = some (rests (sample_object _ _))
sample_behind_names naming.Components names d = some (rests (sample_component _ _))
sample_behind_names naming.Formals names d = some (rests (sample_formal _ _))

abbrev sample_if : (first : Lexeme) (d : Children) → Sample (If first d)
sample_if first d = some (calls (some sample_expr) (takes (calls (sample_statements _) (rests (sample_more_arms _ _ _)))))

abbrev sample_alternative : (span : Span) (d : Children) → Sample (Alternative span d)
sample_alternative span d = some (calls (some sample_choice) (rests (sample_more_choices _ _ _)))

abbrev sample_while : (labelled : Bool) (first : Lexeme) (own : Children) (d : Children) → Sample (While labelled first own d)
sample_while labelled first own d = some (calls (some sample_expr) (takes (rests (sample_loop_body _ _ _ _))))

abbrev sample_for_range : (parameter : DeclKind) (name : Lexeme) (kind : StmtKind) (span : Span) (own : Children) (d : Children) → Sample (ForRange parameter name kind span own d)
sample_for_range parameter name kind span own d = some (calls (some sample_drange) (takes (rests (sample_loop_body _ _ _ _))))

abbrev sample_declare : (labelled : Bool) (first : Lexeme) (own : Children) (d : Children) → Sample (Declare labelled first own d)
sample_declare labelled first own d = some (calls (sample_local_declarations _) (takes (rests (sample_block_body _ _ _ _))))

abbrev sample_behind_head : (region : Region) (head : Head) (name : Lexeme) (own : Children) (d : Children) → Sample (BehindHead region head name own d)
sample_behind_head regions.Spec head name own d = some (right (left (takes gives)))
sample_behind_head regions.Body head name own d = some (right (left (takes gives)))
sample_behind_head regions.Protected head name own d = some (rests (sample_closing _ _ _ _))
sample_behind_head regions.ProtectedBody head name own d = some (right (takes (rests (sample_value_or_body _ _ _ _))))

abbrev sample_protected : (d : Children) → Sample (Protected d)
sample_protected d = some (right (rests (sample_protected_named _ _)))

abbrev sample_protected_in_body : (d : Children) → Sample (ProtectedInBody d)
sample_protected_in_body d = some (right (rests (sample_protected _)))

abbrev sample_entry_body : (d : Children) → Sample (EntryBody d)
sample_entry_body d = some (takes (right (rests (sample_barrier _ _ _ _))))

abbrev sample_protected_in : (region : Region) (d : Children) → Sample (ProtectedIn region d)
sample_protected_in regions.Body d = some (rests (sample_protected_in_body _))
sample_protected_in region d = some (rests (sample_protected _))

abbrev sample_definition_of : (definition : Definition) (d : Children) → Sample (DefinitionOf definition d)
sample_definition_of definitions.Global d = some (rests (sample_global_definition _))
sample_definition_of definitions.Depends d = some (rests (sample_depends_definition _))
sample_definition_of definitions.States d = some (rests (sample_states_definition _))
sample_definition_of definitions.RefinedState d = some (rests (sample_refined_definition _))
sample_definition_of definitions.Initializes d = some (rests (sample_initializes_definition _))
sample_definition_of definitions.PartOf d = some (rests (sample_part_of _))

abbrev sample_names : (what : Naming) (names : List Lexeme) (d : Children) → Sample (Names what names d)
sample_names what names d = some (right (takes (rests (sample_behind_names _ _ _))))

abbrev sample_local_declaration : (which : LocalForm) (first : Lexeme) (d : Children) → Sample (LocalDeclaration which first d)
sample_local_declaration locals.Type first d = some (takes (takes (rests (sample_type_definition _ _))))
sample_local_declaration locals.Subtype first d = some (takes (takes (calls (some sample_indication) (rests (sample_closing _ _ _ _)))))
sample_local_declaration locals.Object first d = some (rests (sample_names _ _ _))
sample_local_declaration locals.Use first d = some (right (rests (sample_unit_names _ _ _)))
sample_local_declaration locals.Pragma first d = some (calls sample_pragma gives)

abbrev sample_components : (name : Lexeme) (d : Children) → Sample (Components name d)
sample_components name d = some (takes (calls (sample_names _ _ _) (rests (sample_more_components _ _ _))))

abbrev sample_case : (first : Lexeme) (d : Children) → Sample (Case first d)
sample_case first d = some (calls (some sample_expr) (takes (takes (calls (sample_alternative _ _) (rests (sample_more_alternatives _ _ _))))))

abbrev sample_for : (labelled : Bool) (first : Lexeme) (own : Children) (d : Children) → Sample (For labelled first own d)
sample_for labelled first own d = some (takes (takes (right (rests (sample_for_range _ _ _ _ _ _)))))

abbrev sample_formals : (d : Children) → Sample (Formals d)
sample_formals d = some (takes (calls (sample_names _ _ _) (rests (sample_more_formals _))))

abbrev sample_procedure : (region : Region) (d : Children) → Sample (Procedure region d)
sample_procedure region d = some (takes (right (rests (sample_behind_head _ _ _ _ _))))

abbrev sample_function_result : (region : Region) (head : Head) (name : Lexeme) (own : Children) (d : Children) → Sample (FunctionResult region head name own d)
sample_function_result region head name own d = some (takes (calls (some sample_unit_name) (rests (sample_behind_head _ _ _ _ _))))

abbrev sample_defined : (kind : AspectKind) (definition : Definition) (name : Lexeme) (d : Children) → Sample (Defined kind definition name d)
sample_defined kind definition name d = some (takes (calls (sample_definition_of _ _) gives))

abbrev sample_statement : (which : StatementForm) (first : Lexeme) (d : Children) → Sample (Statement which first d)
sample_statement statements.Null first d = some (takes gives)
sample_statement statements.Pragma first d = some (calls sample_pragma gives)
sample_statement statements.Named first d = some (rests (sample_named_statement _ _))
sample_statement statements.If first d = some (rests (sample_if _ _))
sample_statement statements.Case first d = some (rests (sample_case _ _))
sample_statement statements.While first d = some (rests (sample_while _ _ _ _))
sample_statement statements.For first d = some (rests (sample_for _ _ _ _))
sample_statement statements.Loop first d = some (rests (sample_loop_body _ _ _ _))
sample_statement statements.Declare first d = some (rests (sample_declare _ _ _ _))
sample_statement statements.Begin first d = some (rests (sample_block_body _ _ _ _))
sample_statement statements.Exit first d = some (rests (sample_exit _ _))
sample_statement statements.Return first d = some (rests (sample_return _ _))
sample_statement statements.Delay first d = some (takes (calls (some sample_expr) (takes gives)))

abbrev sample_labelled : (which : CompoundForm) (first : Lexeme) (own : Children) (d : Children) → Sample (Labelled which first own d)
sample_labelled compounds.While first own d = some (rests (sample_while _ _ _ _))
sample_labelled compounds.For first own d = some (rests (sample_for _ _ _ _))
sample_labelled compounds.Loop first own d = some (rests (sample_loop_body _ _ _ _))
sample_labelled compounds.Declare first own d = some (rests (sample_declare _ _ _ _))
sample_labelled compounds.Begin first own d = some (rests (sample_block_body _ _ _ _))

abbrev sample_function : (region : Region) (d : Children) → Sample (Function region d)
sample_function region d = some (takes (right (rests (sample_function_result _ _ _ _ _))))

abbrev sample_operation : (which : OperationForm) (first : Lexeme) (d : Children) → Sample (Operation which first d)
sample_operation operations.Procedure first d = some (rests (sample_procedure _ _))
sample_operation operations.Function first d = some (rests (sample_function _ _))
sample_operation operations.Entry first d = some (rests (sample_entry _))
sample_operation operations.Pragma first d = some (calls sample_pragma gives)
sample_operation operations.Component first d = some (rests (sample_names _ _ _))

abbrev sample_operation_body : (which : OperationForm) (d : Children) → Sample (OperationBody which d)
sample_operation_body operations.Function d = some (rests (sample_function _ _))
sample_operation_body operations.Entry d = some (rests (sample_entry_body _))
sample_operation_body which d = some (rests (sample_procedure _ _))

abbrev sample_declaration : (region : Region) (which : DeclarationForm) (first : Lexeme) (d : Children) → Sample (Declaration region which first d)
sample_declaration region declarations.Procedure first d = some (rests (sample_procedure _ _))
sample_declaration region declarations.Function first d = some (rests (sample_function _ _))
sample_declaration region declarations.Task first d = some (rests (sample_task_in _ _))
sample_declaration region declarations.Protected first d = some (rests (sample_protected_in _ _))
sample_declaration region declarations.Local first d = some (rests (sample_local_declaration _ _ _))

abbrev sample_aspect_of : (which : AspectName) (name : Lexeme) (d : Children) → Sample (AspectOf which name d)
sample_aspect_of aspect_names.Global name d = some (rests (sample_defined _ _ _ _))
sample_aspect_of aspect_names.RefinedGlobal name d = some (rests (sample_defined _ _ _ _))
sample_aspect_of aspect_names.Depends name d = some (rests (sample_defined _ _ _ _))
sample_aspect_of aspect_names.RefinedDepends name d = some (rests (sample_defined _ _ _ _))
sample_aspect_of aspect_names.AbstractState name d = some (rests (sample_defined _ _ _ _))
sample_aspect_of aspect_names.RefinedState name d = some (rests (sample_defined _ _ _ _))
sample_aspect_of aspect_names.Initializes name d = some (rests (sample_defined _ _ _ _))
sample_aspect_of aspect_names.PartOf name d = some (rests (sample_defined _ _ _ _))
sample_aspect_of aspect_names.Atomic name d = some (rests (sample_atomic _ _))
sample_aspect_of aspect_names.Skipped name d = some (rests (sample_skipped_aspect _ _ _ _))
sample_aspect_of aspect_names.Unknown name d = some (rests (sample_skipped_aspect _ _ _ _))

abbrev sample_aspect : (d : Children) → Sample (Aspect d)
sample_aspect d = some (takes (rests (sample_aspect_of _ _ _)))

abbrev sample_behind_with : (d : Children) → Sample (BehindWith d)
sample_behind_with d = some (calls (sample_aspect _) (rests (sample_more_aspects _)))

abbrev sample_aspects : (d : Children) → Sample (Aspects d)
sample_aspects d = some (takes (rests (sample_behind_with _)))

abbrev sample_in_file : (ends : Bool) (context : Children) (d : Children) → Sample (InFile ends context d)
sample_in_file ends context d = some (left (takes (rest (calls (sample_main_unit _ _) (rest (right (yes gives)))))))

abbrev sample_file_item : (which : FileForm) (first : Lexeme) (ends : Bool) (context : Children) (d : Children) → Sample (FileItem which first ends context d)
sample_file_item files.Pragma first ends context d = some (calls sample_pragma (rests (sample_in_file _ _ _)))
sample_file_item files.With first ends context d = some (calls (sample_unit_names _ _ _) (rests (sample_in_file _ _ _)))
sample_file_item files.Use first ends context d = some (right (calls (sample_unit_names _ _ _) (rests (sample_in_file _ _ _))))
sample_file_item files.Package first ends context d = some (calls (sample_package_unit _ _) (rests (sample_in_file _ _ _)))
sample_file_item files.Procedure first ends context d = some (calls (sample_main_unit _ _) (rests (sample_in_file _ _ _)))

abbrev sample_file : Sample File
sample_file = some (rests (sample_in_file _ _ _))

-- a phrase of each part
abbrev pub sample_phrase : Part → Phrase
sample_phrase (Continued a) = a
sample_phrase (RestOfExpr a) = a
sample_phrase (BehindAnd a o) = phrases.logical logical.And o a number
sample_phrase (BehindOr a o) = phrases.logical logical.Or o a number
sample_phrase (Opened operator a o) = phrases.logical operator o a number
sample_phrase (Begun operator a o) = phrases.logical operator o a number
sample_phrase (Chain operator a) = a
sample_phrase (RestOfRel a) = a
sample_phrase (Membership is_not a) = phrases.range_membership is_not a number number
sample_phrase (Sums a) = a
sample_phrase (Products a) = a
sample_phrase (Parens o) = phrases.parenthesized o number close
sample_phrase (Condition t) = phrases.conditional t (number.tree ∷ number.tree ∷ []) number
sample_phrase (Arms t arms) = phrases.conditional t arms number
sample_phrase (InParens o) = phrases.parenthesized o number close
sample_phrase (NamedFrom o c) = phrases.named_aggregate o ((phrases.association c.span (c.tree ∷ []) number).tree ∷ []) close
sample_phrase (BehindExpr o e) = phrases.parenthesized o e close
sample_phrase (Items o items) = phrases.positional false o items close
sample_phrase (LastItem o items) = phrases.positional true o (items ++ number.tree ∷ []) close
sample_phrase Association = let c = phrases.others_choice (token (word words.Others)) in phrases.association c.span (c.tree ∷ []) number
sample_phrase (Choices span choices) = phrases.association span choices number
sample_phrase (Associations o associations) = phrases.named_aggregate o associations close
sample_phrase Choice = phrases.others_choice (token (word words.Others))
sample_phrase Name = phrases.identifier (token classes.Word)
sample_phrase (Suffixes may_open a) = a
sample_phrase (MayOpen may_open a) = a
sample_phrase (BehindTick a) = phrases.attribute kinds.Word a (token classes.AttributeName)
sample_phrase (BehindAttribute a n) = phrases.attribute n.token.kind a n
sample_phrase (ValuesFrom a n) = phrases.attribute_of n.token.kind a.span n (a.tree ∷ number.tree ∷ []) close
sample_phrase (Values span n values) = phrases.attribute_of n.token.kind span n values close
sample_phrase (ArgumentsFrom a) = phrases.applied a.span (a.tree ∷ (phrases.argument number).tree ∷ []) close
sample_phrase (Arguments span arguments) = phrases.applied span arguments close
sample_phrase Argument = phrases.argument number
sample_phrase Drange = phrases.bounds_range number number
sample_phrase (SubtypeRange a) = phrases.subtype_range (phrases.indication a)
sample_phrase UnitName = phrases.identifier (token classes.Word)
sample_phrase (Points a) = a
sample_phrase Indication = phrases.indication (phrases.identifier (token classes.Word))
sample_phrase (IndicationFrom a) = phrases.indication a
sample_phrase (Balanced n) = (sample_balanced n).phrase
sample_phrase SkippedTokens = sample_skipped_tokens.phrase
sample_phrase Pragma = sample_pragma.phrase
sample_phrase (Aspects d) = (sample_aspects d).phrase
sample_phrase (OptionalAspects d) = (sample_optional_aspects d).phrase
sample_phrase (BehindWith d) = (sample_behind_with d).phrase
sample_phrase (MoreAspects d) = (sample_more_aspects d).phrase
sample_phrase (Aspect d) = (sample_aspect d).phrase
sample_phrase (AspectOf which name d) = (sample_aspect_of which name d).phrase
sample_phrase (Defined kind definition name d) = (sample_defined kind definition name d).phrase
sample_phrase (Atomic name d) = (sample_atomic name d).phrase
sample_phrase (SkippedAspect defined alone name d) = (sample_skipped_aspect defined alone name d).phrase
sample_phrase (DefinitionOf definition d) = (sample_definition_of definition d).phrase
sample_phrase (NullOrItems d) = (sample_null_or_items d).phrase
sample_phrase (ItemsFrom span name d) = (sample_items_from span name d).phrase
sample_phrase (MoreItems span items d) = (sample_more_items span items d).phrase
sample_phrase (GlobalDefinition d) = (sample_global_definition d).phrase
sample_phrase (InGlobal span name d) = (sample_in_global span name d).phrase
sample_phrase (ModesFrom name d) = (sample_modes_from name d).phrase
sample_phrase (MoreModes d) = (sample_more_modes d).phrase
sample_phrase (DependsDefinition d) = (sample_depends_definition d).phrase
sample_phrase (Elements of d) = (sample_elements of d).phrase
sample_phrase (MoreElements of d) = (sample_more_elements of d).phrase
sample_phrase (Element of d) = (sample_element of d).phrase
sample_phrase (Dependency d) = (sample_dependency d).phrase
sample_phrase (Refinement d) = (sample_refinement d).phrase
sample_phrase (Initialization d) = (sample_initialization d).phrase
sample_phrase (RefinedDefinition d) = (sample_refined_definition d).phrase
sample_phrase (InitializesDefinition d) = (sample_initializes_definition d).phrase
sample_phrase (PartOf d) = (sample_part_of d).phrase
sample_phrase (StatesDefinition d) = (sample_states_definition d).phrase
sample_phrase (InStates d) = (sample_in_states d).phrase
sample_phrase (MoreStates d) = (sample_more_states d).phrase
sample_phrase (State d) = (sample_state d).phrase
sample_phrase (StateWithOptions d) = (sample_state_with_options d).phrase
sample_phrase (Closing kind names own d) = (sample_closing kind names own d).phrase
sample_phrase (Names what names d) = (sample_names what names d).phrase
sample_phrase (BehindNames what names d) = (sample_behind_names what names d).phrase
sample_phrase (Object names d) = (sample_object names d).phrase
sample_phrase (ObjectFrom constant names d) = (sample_object_from constant names d).phrase
sample_phrase (Component names d) = (sample_component names d).phrase
sample_phrase (Formal names d) = (sample_formal names d).phrase
sample_phrase (FormalMark kind names d) = (sample_formal_mark kind names d).phrase
sample_phrase (LocalDeclarations d) = (sample_local_declarations d).phrase
sample_phrase (LocalDeclaration which first d) = (sample_local_declaration which first d).phrase
sample_phrase (UnitNames kind span d) = (sample_unit_names kind span d).phrase
sample_phrase (MoreUnitNames kind span own d) = (sample_more_unit_names kind span own d).phrase
sample_phrase (TypeDefinition name d) = (sample_type_definition name d).phrase
sample_phrase (Literals name d) = (sample_literals name d).phrase
sample_phrase (MoreLiterals name own d) = (sample_more_literals name own d).phrase
sample_phrase (RangeType name d) = (sample_range_type name d).phrase
sample_phrase (ArrayType name d) = (sample_array_type name d).phrase
sample_phrase (Components name d) = (sample_components name d).phrase
sample_phrase (MoreComponents name own d) = (sample_more_components name own d).phrase
sample_phrase (Statements d) = (sample_statements d).phrase
sample_phrase (MoreStatements span own d) = (sample_more_statements span own d).phrase
sample_phrase (Statement which first d) = (sample_statement which first d).phrase
sample_phrase (NamedStatement first d) = (sample_named_statement first d).phrase
sample_phrase (BehindName span own d) = (sample_behind_name span own d).phrase
sample_phrase (Labelled which first own d) = (sample_labelled which first own d).phrase
sample_phrase (If first d) = (sample_if first d).phrase
sample_phrase (MoreArms span own d) = (sample_more_arms span own d).phrase
sample_phrase (EndIf kind span own d) = (sample_end_if kind span own d).phrase
sample_phrase (Case first d) = (sample_case first d).phrase
sample_phrase (MoreAlternatives span own d) = (sample_more_alternatives span own d).phrase
sample_phrase (Alternative span d) = (sample_alternative span d).phrase
sample_phrase (MoreChoices span own d) = (sample_more_choices span own d).phrase
sample_phrase (While labelled first own d) = (sample_while labelled first own d).phrase
sample_phrase (For labelled first own d) = (sample_for labelled first own d).phrase
sample_phrase (ForRange parameter name kind span own d) = (sample_for_range parameter name kind span own d).phrase
sample_phrase (LoopBody kind span own d) = (sample_loop_body kind span own d).phrase
sample_phrase (Declare labelled first own d) = (sample_declare labelled first own d).phrase
sample_phrase (BlockBody kind span own d) = (sample_block_body kind span own d).phrase
sample_phrase (EndOfStatement kind span own d) = (sample_end_of_statement kind span own d).phrase
sample_phrase (Exit first d) = (sample_exit first d).phrase
sample_phrase (Return first d) = (sample_return first d).phrase
sample_phrase (ProperBody d) = (sample_proper_body d).phrase
sample_phrase (EndOfDeclaration kind name own d) = (sample_end_of_declaration kind name own d).phrase
sample_phrase (EndOfUnit kind name own d) = (sample_end_of_unit kind name own d).phrase
sample_phrase (Formals d) = (sample_formals d).phrase
sample_phrase (MoreFormals d) = (sample_more_formals d).phrase
sample_phrase (Procedure region d) = (sample_procedure region d).phrase
sample_phrase (Function region d) = (sample_function region d).phrase
sample_phrase (FunctionResult region head name own d) = (sample_function_result region head name own d).phrase
sample_phrase (BehindHead region head name own d) = (sample_behind_head region head name own d).phrase
sample_phrase (NullOrValue head name own d) = (sample_null_or_value head name own d).phrase
sample_phrase (AnyCompletion head name own d) = (sample_any_completion head name own d).phrase
sample_phrase (ValueOrBody head name own d) = (sample_value_or_body head name own d).phrase
sample_phrase (Value head name own d) = (sample_value head name own d).phrase
sample_phrase (SubprogramBody head name own d) = (sample_subprogram_body head name own d).phrase
sample_phrase (Task d) = (sample_task d).phrase
sample_phrase (TaskNamed is_type d) = (sample_task_named is_type d).phrase
sample_phrase (TaskDefinition kind name own d) = (sample_task_definition kind name own d).phrase
sample_phrase (TaskInBody d) = (sample_task_in_body d).phrase
sample_phrase (TaskBody d) = (sample_task_body d).phrase
sample_phrase (Protected d) = (sample_protected d).phrase
sample_phrase (ProtectedNamed is_type d) = (sample_protected_named is_type d).phrase
sample_phrase (Operations d) = (sample_operations d).phrase
sample_phrase (PrivateItems d) = (sample_private_items d).phrase
sample_phrase (Operation which first d) = (sample_operation which first d).phrase
sample_phrase (Entry d) = (sample_entry d).phrase
sample_phrase (ProtectedInBody d) = (sample_protected_in_body d).phrase
sample_phrase (ProtectedBody d) = (sample_protected_body d).phrase
sample_phrase (OperationBodies d) = (sample_operation_bodies d).phrase
sample_phrase (OperationBody which d) = (sample_operation_body which d).phrase
sample_phrase (EntryBody d) = (sample_entry_body d).phrase
sample_phrase (Barrier has_formals name own d) = (sample_barrier has_formals name own d).phrase
sample_phrase (Declarations region d) = (sample_declarations region d).phrase
sample_phrase (Declaration region which first d) = (sample_declaration region which first d).phrase
sample_phrase (TaskIn region d) = (sample_task_in region d).phrase
sample_phrase (ProtectedIn region d) = (sample_protected_in region d).phrase
sample_phrase (MainUnit own d) = (sample_main_unit own d).phrase
sample_phrase (PackageUnit own d) = (sample_package_unit own d).phrase
sample_phrase (SpecUnit own d) = (sample_spec_unit own d).phrase
sample_phrase (BodyUnit own d) = (sample_body_unit own d).phrase
sample_phrase File = sample_file.phrase
sample_phrase (InFile ends context d) = (sample_in_file ends context d).phrase
sample_phrase (FileItem which first ends context d) = (sample_file_item which first ends context d).phrase
sample_phrase p = number

abbrev pub Sampled : Part → Type 0
Sampled p = (w : List Lexeme) × Spells p (sample_phrase p) w

-- each part has a sentence
pub sample : (p : Part) → Sampled p
sample Expr = (one, sample_expr)
sample (Continued a) = ([], sample_continued a)
sample (RestOfExpr a) = ([], right (right (right gives)))
sample (BehindAnd a o) = (one, right (rest (sample_opened logical.And a o)))
sample (BehindOr a o) = (one, right (rest (sample_opened logical.Or a o)))
sample (Opened operator a o) = (one, sample_opened operator a o)
sample (Begun operator a o) = (one, sample_begun operator a o)
sample (Chain operator a) = ([], sample_chain operator a)
sample Rel = (one, sample_rel)
sample (RestOfRel a) = ([], sample_rest_of_rel a)
sample (Membership is_not a) = (token classes.Number ∷ token (mark marks.Dots) ∷ one, call sample_simple (left (take refl (call sample_simple gives))))
sample Simple = (one, sample_simple)
sample Signed = (one, sample_signed)
sample (Sums a) = ([], right gives)
sample Term = (one, sample_term)
sample (Products a) = ([], right gives)
sample Factor = (one, sample_factor)
sample Powered = (one, sample_powered)
sample Primary = (one, sample_primary)
sample (Parens o) = (token classes.Number ∷ close ∷ [], right (rest (sample_in_parens o)))
sample (Condition t) = (token classes.Number ∷ token (word words.Then) ∷ token classes.Number ∷ else_number, call sample_expr (take refl (call sample_expr (rest (sample_arms t (number.tree ∷ number.tree ∷ []))))))
sample (Arms t arms) = (else_number, sample_arms t arms)
sample (InParens o) = (token classes.Number ∷ close ∷ [], sample_in_parens o)
sample (NamedFrom o c) = (token (mark marks.Arrow) ∷ token classes.Number ∷ close ∷ [], call (right (take refl (call sample_expr gives))) (rest (right (take refl gives))))
sample (BehindExpr o e) = (close ∷ [], left (take refl gives))
sample (Items o items) = (close ∷ [], right (take refl gives))
sample (LastItem o items) = (token (mark marks.Arrow) ∷ token classes.Number ∷ close ∷ [], take refl (call sample_expr (take refl gives)))
sample Association = (token (word words.Others) ∷ arrow_number, call (left (take refl gives)) (rest (right (take refl (call sample_expr gives)))))
sample (Choices span choices) = (arrow_number, right (take refl (call sample_expr gives)))
sample (Associations o associations) = (close ∷ [], right (take refl gives))
sample Choice = (token (word words.Others) ∷ [], left (take refl gives))
sample Name = (token classes.Word ∷ [], take refl (rest (sample_suffixes true (phrases.identifier (token classes.Word)))))
sample (Suffixes may_open a) = ([], sample_suffixes may_open a)
sample (MayOpen may_open a) = ([], sample_may_open may_open a)
sample (BehindTick a) = (token classes.AttributeName ∷ [], left (take refl (rest (right (rest (sample_suffixes false (phrases.attribute kinds.Word a (token classes.AttributeName))))))))
sample (BehindAttribute a n) = ([], right (rest (sample_suffixes false (phrases.attribute n.token.kind a n))))
sample (ValuesFrom a n) = (token classes.Number ∷ close ∷ [], call sample_expr (rest (right (take refl gives))))
sample (Values span n values) = (close ∷ [], right (take refl gives))
sample (ArgumentsFrom a) = (token classes.Number ∷ close ∷ [], call sample_argument (rest (right (take refl gives))))
sample (Arguments span arguments) = (close ∷ [], right (take refl gives))
sample Argument = (one, sample_argument)
sample Drange = (token classes.Number ∷ token (mark marks.Dots) ∷ one, call sample_simple (left (take refl (call sample_simple gives))))
sample (SubtypeRange a) = ([], right gives)
sample UnitName = (token classes.Word ∷ [], sample_unit_name)
sample (Points a) = ([], right gives)
sample Indication = (token classes.Word ∷ [], sample_indication)
sample (IndicationFrom a) = ([], right gives)
sample (Balanced n) = ((sample_balanced n).word, (sample_balanced n).spells)
sample SkippedTokens = (sample_skipped_tokens.word, sample_skipped_tokens.spells)
sample Pragma = (sample_pragma.word, sample_pragma.spells)
sample (Aspects d) = ((sample_aspects d).word, (sample_aspects d).spells)
sample (OptionalAspects d) = ((sample_optional_aspects d).word, (sample_optional_aspects d).spells)
sample (BehindWith d) = ((sample_behind_with d).word, (sample_behind_with d).spells)
sample (MoreAspects d) = ((sample_more_aspects d).word, (sample_more_aspects d).spells)
sample (Aspect d) = ((sample_aspect d).word, (sample_aspect d).spells)
sample (AspectOf which name d) = ((sample_aspect_of which name d).word, (sample_aspect_of which name d).spells)
sample (Defined kind definition name d) = ((sample_defined kind definition name d).word, (sample_defined kind definition name d).spells)
sample (Atomic name d) = ((sample_atomic name d).word, (sample_atomic name d).spells)
sample (SkippedAspect defined alone name d) = ((sample_skipped_aspect defined alone name d).word, (sample_skipped_aspect defined alone name d).spells)
sample (DefinitionOf definition d) = ((sample_definition_of definition d).word, (sample_definition_of definition d).spells)
sample (NullOrItems d) = ((sample_null_or_items d).word, (sample_null_or_items d).spells)
sample (ItemsFrom span name d) = ((sample_items_from span name d).word, (sample_items_from span name d).spells)
sample (MoreItems span items d) = ((sample_more_items span items d).word, (sample_more_items span items d).spells)
sample (GlobalDefinition d) = ((sample_global_definition d).word, (sample_global_definition d).spells)
sample (InGlobal span name d) = ((sample_in_global span name d).word, (sample_in_global span name d).spells)
sample (ModesFrom name d) = ((sample_modes_from name d).word, (sample_modes_from name d).spells)
sample (MoreModes d) = ((sample_more_modes d).word, (sample_more_modes d).spells)
sample (DependsDefinition d) = ((sample_depends_definition d).word, (sample_depends_definition d).spells)
sample (Elements of d) = ((sample_elements of d).word, (sample_elements of d).spells)
sample (MoreElements of d) = ((sample_more_elements of d).word, (sample_more_elements of d).spells)
sample (Element of d) = ((sample_element of d).word, (sample_element of d).spells)
sample (Dependency d) = ((sample_dependency d).word, (sample_dependency d).spells)
sample (Refinement d) = ((sample_refinement d).word, (sample_refinement d).spells)
sample (Initialization d) = ((sample_initialization d).word, (sample_initialization d).spells)
sample (RefinedDefinition d) = ((sample_refined_definition d).word, (sample_refined_definition d).spells)
sample (InitializesDefinition d) = ((sample_initializes_definition d).word, (sample_initializes_definition d).spells)
sample (PartOf d) = ((sample_part_of d).word, (sample_part_of d).spells)
sample (StatesDefinition d) = ((sample_states_definition d).word, (sample_states_definition d).spells)
sample (InStates d) = ((sample_in_states d).word, (sample_in_states d).spells)
sample (MoreStates d) = ((sample_more_states d).word, (sample_more_states d).spells)
sample (State d) = ((sample_state d).word, (sample_state d).spells)
sample (StateWithOptions d) = ((sample_state_with_options d).word, (sample_state_with_options d).spells)
sample (Closing kind names own d) = ((sample_closing kind names own d).word, (sample_closing kind names own d).spells)
sample (Names what names d) = ((sample_names what names d).word, (sample_names what names d).spells)
sample (BehindNames what names d) = ((sample_behind_names what names d).word, (sample_behind_names what names d).spells)
sample (Object names d) = ((sample_object names d).word, (sample_object names d).spells)
sample (ObjectFrom constant names d) = ((sample_object_from constant names d).word, (sample_object_from constant names d).spells)
sample (Component names d) = ((sample_component names d).word, (sample_component names d).spells)
sample (Formal names d) = ((sample_formal names d).word, (sample_formal names d).spells)
sample (FormalMark kind names d) = ((sample_formal_mark kind names d).word, (sample_formal_mark kind names d).spells)
sample (LocalDeclarations d) = ((sample_local_declarations d).word, (sample_local_declarations d).spells)
sample (LocalDeclaration which first d) = ((sample_local_declaration which first d).word, (sample_local_declaration which first d).spells)
sample (UnitNames kind span d) = ((sample_unit_names kind span d).word, (sample_unit_names kind span d).spells)
sample (MoreUnitNames kind span own d) = ((sample_more_unit_names kind span own d).word, (sample_more_unit_names kind span own d).spells)
sample (TypeDefinition name d) = ((sample_type_definition name d).word, (sample_type_definition name d).spells)
sample (Literals name d) = ((sample_literals name d).word, (sample_literals name d).spells)
sample (MoreLiterals name own d) = ((sample_more_literals name own d).word, (sample_more_literals name own d).spells)
sample (RangeType name d) = ((sample_range_type name d).word, (sample_range_type name d).spells)
sample (ArrayType name d) = ((sample_array_type name d).word, (sample_array_type name d).spells)
sample (Components name d) = ((sample_components name d).word, (sample_components name d).spells)
sample (MoreComponents name own d) = ((sample_more_components name own d).word, (sample_more_components name own d).spells)
sample (Statements d) = ((sample_statements d).word, (sample_statements d).spells)
sample (MoreStatements span own d) = ((sample_more_statements span own d).word, (sample_more_statements span own d).spells)
sample (Statement which first d) = ((sample_statement which first d).word, (sample_statement which first d).spells)
sample (NamedStatement first d) = ((sample_named_statement first d).word, (sample_named_statement first d).spells)
sample (BehindName span own d) = ((sample_behind_name span own d).word, (sample_behind_name span own d).spells)
sample (Labelled which first own d) = ((sample_labelled which first own d).word, (sample_labelled which first own d).spells)
sample (If first d) = ((sample_if first d).word, (sample_if first d).spells)
sample (MoreArms span own d) = ((sample_more_arms span own d).word, (sample_more_arms span own d).spells)
sample (EndIf kind span own d) = ((sample_end_if kind span own d).word, (sample_end_if kind span own d).spells)
sample (Case first d) = ((sample_case first d).word, (sample_case first d).spells)
sample (MoreAlternatives span own d) = ((sample_more_alternatives span own d).word, (sample_more_alternatives span own d).spells)
sample (Alternative span d) = ((sample_alternative span d).word, (sample_alternative span d).spells)
sample (MoreChoices span own d) = ((sample_more_choices span own d).word, (sample_more_choices span own d).spells)
sample (While labelled first own d) = ((sample_while labelled first own d).word, (sample_while labelled first own d).spells)
sample (For labelled first own d) = ((sample_for labelled first own d).word, (sample_for labelled first own d).spells)
sample (ForRange parameter name kind span own d) = ((sample_for_range parameter name kind span own d).word, (sample_for_range parameter name kind span own d).spells)
sample (LoopBody kind span own d) = ((sample_loop_body kind span own d).word, (sample_loop_body kind span own d).spells)
sample (Declare labelled first own d) = ((sample_declare labelled first own d).word, (sample_declare labelled first own d).spells)
sample (BlockBody kind span own d) = ((sample_block_body kind span own d).word, (sample_block_body kind span own d).spells)
sample (EndOfStatement kind span own d) = ((sample_end_of_statement kind span own d).word, (sample_end_of_statement kind span own d).spells)
sample (Exit first d) = ((sample_exit first d).word, (sample_exit first d).spells)
sample (Return first d) = ((sample_return first d).word, (sample_return first d).spells)
sample (ProperBody d) = ((sample_proper_body d).word, (sample_proper_body d).spells)
sample (EndOfDeclaration kind name own d) = ((sample_end_of_declaration kind name own d).word, (sample_end_of_declaration kind name own d).spells)
sample (EndOfUnit kind name own d) = ((sample_end_of_unit kind name own d).word, (sample_end_of_unit kind name own d).spells)
sample (Formals d) = ((sample_formals d).word, (sample_formals d).spells)
sample (MoreFormals d) = ((sample_more_formals d).word, (sample_more_formals d).spells)
sample (Procedure region d) = ((sample_procedure region d).word, (sample_procedure region d).spells)
sample (Function region d) = ((sample_function region d).word, (sample_function region d).spells)
sample (FunctionResult region head name own d) = ((sample_function_result region head name own d).word, (sample_function_result region head name own d).spells)
sample (BehindHead region head name own d) = ((sample_behind_head region head name own d).word, (sample_behind_head region head name own d).spells)
sample (NullOrValue head name own d) = ((sample_null_or_value head name own d).word, (sample_null_or_value head name own d).spells)
sample (AnyCompletion head name own d) = ((sample_any_completion head name own d).word, (sample_any_completion head name own d).spells)
sample (ValueOrBody head name own d) = ((sample_value_or_body head name own d).word, (sample_value_or_body head name own d).spells)
sample (Value head name own d) = ((sample_value head name own d).word, (sample_value head name own d).spells)
sample (SubprogramBody head name own d) = ((sample_subprogram_body head name own d).word, (sample_subprogram_body head name own d).spells)
sample (Task d) = ((sample_task d).word, (sample_task d).spells)
sample (TaskNamed is_type d) = ((sample_task_named is_type d).word, (sample_task_named is_type d).spells)
sample (TaskDefinition kind name own d) = ((sample_task_definition kind name own d).word, (sample_task_definition kind name own d).spells)
sample (TaskInBody d) = ((sample_task_in_body d).word, (sample_task_in_body d).spells)
sample (TaskBody d) = ((sample_task_body d).word, (sample_task_body d).spells)
sample (Protected d) = ((sample_protected d).word, (sample_protected d).spells)
sample (ProtectedNamed is_type d) = ((sample_protected_named is_type d).word, (sample_protected_named is_type d).spells)
sample (Operations d) = ((sample_operations d).word, (sample_operations d).spells)
sample (PrivateItems d) = ((sample_private_items d).word, (sample_private_items d).spells)
sample (Operation which first d) = ((sample_operation which first d).word, (sample_operation which first d).spells)
sample (Entry d) = ((sample_entry d).word, (sample_entry d).spells)
sample (ProtectedInBody d) = ((sample_protected_in_body d).word, (sample_protected_in_body d).spells)
sample (ProtectedBody d) = ((sample_protected_body d).word, (sample_protected_body d).spells)
sample (OperationBodies d) = ((sample_operation_bodies d).word, (sample_operation_bodies d).spells)
sample (OperationBody which d) = ((sample_operation_body which d).word, (sample_operation_body which d).spells)
sample (EntryBody d) = ((sample_entry_body d).word, (sample_entry_body d).spells)
sample (Barrier has_formals name own d) = ((sample_barrier has_formals name own d).word, (sample_barrier has_formals name own d).spells)
sample (Declarations region d) = ((sample_declarations region d).word, (sample_declarations region d).spells)
sample (Declaration region which first d) = ((sample_declaration region which first d).word, (sample_declaration region which first d).spells)
sample (TaskIn region d) = ((sample_task_in region d).word, (sample_task_in region d).spells)
sample (ProtectedIn region d) = ((sample_protected_in region d).word, (sample_protected_in region d).spells)
sample (MainUnit own d) = ((sample_main_unit own d).word, (sample_main_unit own d).spells)
sample (PackageUnit own d) = ((sample_package_unit own d).word, (sample_package_unit own d).spells)
sample (SpecUnit own d) = ((sample_spec_unit own d).word, (sample_spec_unit own d).spells)
sample (BodyUnit own d) = ((sample_body_unit own d).word, (sample_body_unit own d).spells)
sample File = (sample_file.word, sample_file.spells)
sample (InFile ends context d) = ((sample_in_file ends context d).word, (sample_in_file ends context d).spells)
sample (FileItem which first ends context d) = ((sample_file_item which first ends context d).word, (sample_file_item which first ends context d).spells)

-- a body that some tokens make up
abbrev pub inhabited : Body → Bool
inhabited Never = false
inhabited (Gives y) = true
inhabited (Take c k) = inhabited (k (token c))
inhabited (Call p k) = inhabited (k (sample_phrase p))
inhabited (Rest p) = true
inhabited (Or b c) = inhabited b || inhabited c
inhabited (When d b c) = inhabited b && inhabited c

abbrev pub Sentence : Body → Type 0
Sentence b = (y : Phrase) × (v : List Lexeme) × Fits b y v

either : {b c : Body} → Sentence b ⊎ Sentence c → Sentence (Or b c)
either (inl h) = (h.0, h.1, left h.2)
either (inr h) = (h.0, h.1, right h.2)

chosen : (d : Bool) {b c : Body} → Sentence b → Sentence c → Sentence (When d b c)
chosen true h g = (h.0, h.1, yes h.2)
chosen false h g = (g.0, g.1, no g.2)

pub sentence : (b : Body) → inhabited b ≡ true → Sentence b
sentence Never e = absurd (cc)
sentence (Gives y) e = (y, [], gives)
sentence (Take c k) e = let h = sentence (k (token c)) e in (h.0, token c ∷ h.1, take (token_is c) h.2)
sentence (Call p k) e = let h = sentence (k (sample_phrase p)) e in (h.0, (sample p).0 ++ h.1, call (sample p).1 h.2)
sentence (Rest p) e = (sample_phrase p, (sample p).0, rest (sample p).1)
sentence (Or b c) e = either (elim (or_either (inhabited b) (inhabited c) e) [ inl h ↦ inl (sentence b h) | inr h ↦ inr (sentence c h) ])
sentence (When d b c) e = chosen d (sentence b (and_left (inhabited b) (inhabited c) e)) (sentence c (and_right (inhabited b) (inhabited c) e))
