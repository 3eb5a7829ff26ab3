-- With which tokens a sentence of a part may go on. This serves proofs alone, by what readers know on their way
-- (`Awaits`): no answer speaks of it, and a token too many here only weakens what readers promise one another.
use Rattle.std.specs.Prelude.{Bool, true, false, List, [], ◌∷◌, if◌then◌else◌}
use Rattle.ada_tree.specs.declared.token.Mark.TheVariants as marks
use Rattle.ada_tree.specs.declared.words.Reserved.TheVariants as words
use Rattle.ada_grammar.specs.declared.tokens.Class.{Class}
use Rattle.ada_grammar.specs.declared.tokens.Class.TheVariants as classes
use Rattle.ada_grammar.specs.Sorts.{Sort, is_in}
use Rattle.ada_grammar.specs.Parts.{Begun, Rel, RestOfRel, Membership, Simple, Signed, Sums, Term, Products, Factor, Powered}
use Rattle.ada_grammar.specs.Parts.{Primary, Parens, InParens, NamedFrom, BehindExpr, Items, LastItem, Associations, Name, Suffixes}
use Rattle.ada_grammar.specs.Parts.{MayOpen, BehindTick, BehindAttribute, ValuesFrom, Values, ArgumentsFrom, Arguments, Argument}
use Rattle.ada_grammar.specs.Parts.{Drange, SubtypeRange, UnitName, Points, Indication, IndicationFrom, Balanced, SkippedTokens}
use Rattle.ada_grammar.specs.Parts.{Pragma, Aspects, OptionalAspects, BehindWith, MoreAspects, Aspect, AspectOf, Defined, Atomic}
use Rattle.ada_grammar.specs.Parts.{SkippedAspect, DefinitionOf, NullOrItems, ItemsFrom, MoreItems, GlobalDefinition, InGlobal}
use Rattle.ada_grammar.specs.Parts.{ModesFrom, MoreModes, DependsDefinition, Elements, MoreElements, Element, Dependency, Refinement}
use Rattle.ada_grammar.specs.Parts.{Initialization, RefinedDefinition, InitializesDefinition, PartOf, StatesDefinition, InStates}
use Rattle.ada_grammar.specs.Parts.{MoreStates, State, StateWithOptions, Closing, Names, BehindNames, Object, ObjectFrom, Component}
use Rattle.ada_grammar.specs.Parts.{Formal, FormalMark, LocalDeclarations, LocalDeclaration, UnitNames, MoreUnitNames}
use Rattle.ada_grammar.specs.Parts.{TypeDefinition, Literals, MoreLiterals, RangeType, ArrayType, Components, MoreComponents}
use Rattle.ada_grammar.specs.Parts.{Statements, MoreStatements, Statement, NamedStatement, BehindName, Labelled, If, MoreArms, EndIf}
use Rattle.ada_grammar.specs.Parts.{Case, MoreAlternatives, Alternative, MoreChoices, While, For, ForRange, LoopBody, Declare}
use Rattle.ada_grammar.specs.Parts.{BlockBody, EndOfStatement, Exit, Return, ProperBody, EndOfDeclaration, EndOfUnit, Formals}
use Rattle.ada_grammar.specs.Parts.{MoreFormals, Procedure, Function, FunctionResult, BehindHead, NullOrValue, AnyCompletion}
use Rattle.ada_grammar.specs.Parts.{ValueOrBody, Value, SubprogramBody, Task, TaskNamed, TaskDefinition, TaskInBody, TaskBody}
use Rattle.ada_grammar.specs.Parts.{Protected, ProtectedNamed, Operations, PrivateItems, Operation, Entry, ProtectedInBody}
use Rattle.ada_grammar.specs.Parts.{ProtectedBody, OperationBodies, OperationBody, EntryBody, Barrier, Declarations, Declaration}
use Rattle.ada_grammar.specs.Parts.{TaskIn, ProtectedIn, MainUnit, PackageUnit, SpecUnit, BodyUnit, File, InFile, FileItem, Part}
use Rattle.ada_grammar.specs.Parts.{word, mark}

-- a token of one of the classes
abbrev pub among : List Class → Sort → Bool
among [] s = false
among (c ∷ cs) s = if is_in c s then true else among cs s

-- what a name may go on with
abbrev pub name_suffixes : List Class
name_suffixes = mark marks.Dot ∷ mark marks.Open ∷ mark marks.Tick ∷ []

-- classes with which a sentence of the part may go on beyond an earlier end
abbrev pub more_of_power : List Class
more_of_power = mark marks.Power ∷ name_suffixes

abbrev pub more_of_term : List Class
more_of_term = classes.Multiplying ∷ more_of_power

abbrev pub more_of_simple : List Class
more_of_simple = classes.Adding ∷ more_of_term

abbrev pub more_of_rel : List Class
more_of_rel = mark marks.Dots ∷ classes.Relational ∷ word words.Not ∷ word words.In ∷ more_of_simple

abbrev pub more_of_expr : List Class
more_of_expr = word words.And ∷ word words.Or ∷ word words.Xor ∷ more_of_rel

abbrev pub more : Part → Sort → Bool
more (Begun operator a o) s = among more_of_rel s
more Rel s = among more_of_rel s
more (RestOfRel a) s = among more_of_rel s
more (Membership is_not a) s = among more_of_rel s
more Simple s = among more_of_simple s
more Signed s = among more_of_term s
more (Sums a) s = among more_of_simple s
more Term s = among more_of_term s
more (Products a) s = among more_of_term s
more Factor s = among more_of_power s
more Powered s = among more_of_power s
more Primary s = among name_suffixes s
more (Parens o) s = false
more (InParens o) s = false
more (NamedFrom o c) s = false
more (BehindExpr o e) s = false
more (Items o items) s = false
more (LastItem o items) s = false
more (Associations o associations) s = false
more Name s = among name_suffixes s
more (Suffixes may_open a) s = among name_suffixes s
more (MayOpen may_open a) s = among name_suffixes s
more (BehindTick a) s = among name_suffixes s
more (BehindAttribute a n) s = among name_suffixes s
more (ValuesFrom a n) s = false
more (Values first n values) s = false
more (ArgumentsFrom a) s = false
more (Arguments first arguments) s = false
more Argument s = among (mark marks.Arrow ∷ more_of_expr) s
more Drange s = among (mark marks.Dots ∷ word words.Range ∷ more_of_simple) s
more (SubtypeRange a) s = among (word words.Range ∷ more_of_simple) s
more UnitName s = is_in (mark marks.Dot) s
more (Points a) s = is_in (mark marks.Dot) s
more Indication s = among (mark marks.Dot ∷ word words.Range ∷ more_of_simple) s
more (IndicationFrom a) s = among (word words.Range ∷ more_of_simple) s
more (Balanced n) s = false
more SkippedTokens s = among (mark marks.Open ∷ classes.Skipped ∷ []) s
more Pragma s = false
more (Aspects d) s = among (mark marks.Comma ∷ classes.Skipped ∷ name_suffixes) s
more (OptionalAspects d) s = among (mark marks.Comma ∷ classes.Skipped ∷ name_suffixes) s
more (BehindWith d) s = among (mark marks.Comma ∷ classes.Skipped ∷ name_suffixes) s
more (MoreAspects d) s = among (mark marks.Comma ∷ classes.Skipped ∷ name_suffixes) s
more (Aspect d) s = among (classes.Skipped ∷ name_suffixes) s
more (AspectOf which name d) s = among (classes.Skipped ∷ name_suffixes) s
more (Defined kind definition name d) s = among (name_suffixes) s
more (Atomic name d) s = among (mark marks.Arrow ∷ []) s
more (SkippedAspect defined alone name d) s = among (mark marks.Open ∷ classes.Skipped ∷ []) s
more (DefinitionOf definition d) s = among (name_suffixes) s
more (NullOrItems d) s = among (name_suffixes) s
more (ItemsFrom span name d) s = false
more (MoreItems span items d) s = false
more (GlobalDefinition d) s = among (name_suffixes) s
more (InGlobal span name d) s = false
more (ModesFrom name d) s = false
more (MoreModes d) s = false
more (DependsDefinition d) s = false
more (Elements of d) s = false
more (MoreElements of d) s = false
more (Element of d) s = among (mark marks.Arrow ∷ name_suffixes) s
more (Dependency d) s = among (name_suffixes) s
more (Refinement d) s = among (name_suffixes) s
more (Initialization d) s = among (mark marks.Arrow ∷ name_suffixes) s
more (RefinedDefinition d) s = false
more (InitializesDefinition d) s = among (name_suffixes) s
more (PartOf d) s = among (name_suffixes) s
more (StatesDefinition d) s = false
more (InStates d) s = false
more (MoreStates d) s = false
more (State d) s = false
more (StateWithOptions d) s = false
more (Closing kind names own d) s = false
more (Names what names d) s = among (mark marks.Dot ∷ []) s
more (BehindNames what names d) s = among (mark marks.Dot ∷ []) s
more (Object names d) s = false
more (ObjectFrom constant names d) s = false
more (Component names d) s = false
more (Formal names d) s = among (mark marks.Dot ∷ []) s
more (FormalMark kind names d) s = among (mark marks.Dot ∷ []) s
more (LocalDeclarations d) s = among (mark marks.Dot ∷ classes.LocalDeclaration ∷ []) s
more (LocalDeclaration which first d) s = among (mark marks.Dot ∷ []) s
more (UnitNames kind span d) s = false
more (MoreUnitNames kind span own d) s = false
more (TypeDefinition name d) s = false
more (Literals name d) s = false
more (MoreLiterals name own d) s = false
more (RangeType name d) s = false
more (ArrayType name d) s = false
more (Components name d) s = false
more (MoreComponents name own d) s = false
more (Statements d) s = among (classes.Statement ∷ []) s
more (MoreStatements span own d) s = among (classes.Statement ∷ []) s
more (Statement which first d) s = false
more (NamedStatement first d) s = false
more (BehindName span own d) s = false
more (Labelled which first own d) s = false
more (If first d) s = false
more (MoreArms span own d) s = false
more (EndIf kind span own d) s = false
more (Case first d) s = false
more (MoreAlternatives span own d) s = false
more (Alternative span d) s = among (classes.Statement ∷ []) s
more (MoreChoices span own d) s = among (classes.Statement ∷ []) s
more (While labelled first own d) s = false
more (For labelled first own d) s = false
more (ForRange parameter name kind span own d) s = false
more (LoopBody kind span own d) s = false
more (Declare labelled first own d) s = false
more (BlockBody kind span own d) s = false
more (EndOfStatement kind span own d) s = false
more (Exit first d) s = false
more (Return first d) s = false
more (ProperBody d) s = false
more (EndOfDeclaration kind name own d) s = false
more (EndOfUnit kind name own d) s = false
more (Formals d) s = false
more (MoreFormals d) s = false
more (Procedure region d) s = false
more (Function region d) s = false
more (FunctionResult region head name own d) s = false
more (BehindHead region head name own d) s = false
more (NullOrValue head name own d) s = false
more (AnyCompletion head name own d) s = false
more (ValueOrBody head name own d) s = false
more (Value head name own d) s = false
more (SubprogramBody head name own d) s = false
more (Task d) s = false
more (TaskNamed is_type d) s = false
more (TaskDefinition kind name own d) s = false
more (TaskInBody d) s = false
more (TaskBody d) s = false
more (Protected d) s = false
more (ProtectedNamed is_type d) s = false
more (Operations d) s = among (mark marks.Dot ∷ classes.Operation ∷ []) s
more (PrivateItems d) s = among (mark marks.Dot ∷ classes.PrivateItem ∷ []) s
more (Operation which first d) s = among (mark marks.Dot ∷ []) s
more (Entry d) s = false
more (ProtectedInBody d) s = false
more (ProtectedBody d) s = false
more (OperationBodies d) s = among (classes.OperationBody ∷ []) s
more (OperationBody which d) s = false
more (EntryBody d) s = false
more (Barrier has_formals name own d) s = false
more (Declarations region d) s = among (classes.Declaration ∷ mark marks.Dot ∷ []) s
more (Declaration region which first d) s = among (mark marks.Dot ∷ []) s
more (TaskIn region d) s = false
more (ProtectedIn region d) s = false
more (MainUnit own d) s = false
more (PackageUnit own d) s = false
more (SpecUnit own d) s = false
more (BodyUnit own d) s = false
more File s = is_in classes.FileItem s
more (InFile ends context d) s = is_in classes.FileItem s
more (FileItem which first ends context d) s = is_in classes.FileItem s
more p s = among more_of_expr s
