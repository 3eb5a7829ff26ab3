-- With which tokens a sentence of a part may begin, and what a part gives for no tokens. These tables serve proofs alone,
-- and are checked against the rules (`Begins.antt`).
use Rattle.std.specs.Prelude.{◌+◌, Bool, true, false, List, [], ◌∷◌, ◌++◌, if◌then◌else◌}
use Rattle.ada_tree.specs.declared.token.Mark.TheVariants as marks
use Rattle.ada_tree.specs.declared.words.Reserved.TheVariants as words
use Rattle.ada_grammar.specs.declared.tokens.Class.{Class}
use Rattle.ada_grammar.specs.declared.tokens.Class.TheVariants as classes
use Rattle.ada_grammar.specs.Sorts.{Sort, is_in}
use Rattle.ada_tree.specs.declared.aspects.AspectKind.TheVariants as aspects
use Rattle.ada_tree.specs.declared.statements.StmtKind.TheVariants as stmts
use Rattle.ada_tree.specs.declared.identifiers.AspectName.TheVariants as aspect_names
use Rattle.ada_grammar.specs.Phrases as phrases
use Rattle.ada_grammar.specs.Phrases.{Phrase}
use Rattle.ada_grammar.specs.Parts.{Continued, RestOfExpr, BehindAnd, BehindOr, Chain, RestOfRel, Sums, Term, Products, Factor, Powered, Primary, Parens, Arms, InParens, NamedFrom, BehindExpr, Items, LastItem, Association, Choices, Associations, Choice, Name, Suffixes, MayOpen, BehindTick, BehindAttribute, Values, Arguments, SubtypeRange, UnitName, Points, Indication, IndicationFrom, Balanced, SkippedTokens, Pragma, Aspects, OptionalAspects, BehindWith, MoreAspects, Aspect, AspectOf, Defined, Atomic, SkippedAspect, DefinitionOf, NullOrItems, ItemsFrom, MoreItems, GlobalDefinition, InGlobal, ModesFrom, MoreModes, DependsDefinition, Elements, MoreElements, Element, Dependency, Refinement, Initialization, RefinedDefinition, InitializesDefinition, PartOf, StatesDefinition, InStates, MoreStates, State, StateWithOptions, Closing, Names, BehindNames, Object, ObjectFrom, Component, Formal, FormalMark, LocalDeclarations, LocalDeclaration, UnitNames, MoreUnitNames, TypeDefinition, Literals, MoreLiterals, RangeType, ArrayType, Components, MoreComponents, Statements, MoreStatements, Statement, NamedStatement, BehindName, Labelled, If, MoreArms, EndIf, Case, MoreAlternatives, Alternative, MoreChoices, While, For, ForRange, LoopBody, Declare, BlockBody, EndOfStatement, Exit, Return, ProperBody, EndOfDeclaration, EndOfUnit, Formals, MoreFormals, Procedure, Function, FunctionResult, BehindHead, NullOrValue, AnyCompletion, ValueOrBody, Value, SubprogramBody, Task, TaskNamed, TaskDefinition, TaskInBody, TaskBody, Protected, ProtectedNamed, Operations, PrivateItems, Operation, Entry, ProtectedInBody, ProtectedBody, OperationBodies, OperationBody, EntryBody, Barrier, Declarations, Declaration, TaskIn, ProtectedIn, MainUnit, PackageUnit, SpecUnit, BodyUnit, File, InFile, FileItem, Part, word, mark}
use Rattle.ada_grammar.specs.More.{among, name_suffixes}

-- classes with which a sentence of a part may begin
abbrev pub primaries : List Class
primaries = classes.Number ∷ classes.Word ∷ mark marks.Open ∷ []

abbrev pub factors : List Class
factors = word words.Abs ∷ word words.Not ∷ primaries

abbrev pub simples : List Class
simples = classes.Adding ∷ factors

abbrev pub comparisons : List Class
comparisons = classes.Relational ∷ word words.Not ∷ word words.In ∷ []

abbrev pub chains : List Class
chains = word words.And ∷ word words.Or ∷ word words.Xor ∷ []

abbrev pub first_of : Part → Sort → Bool
first_of (Continued a) s = among (comparisons ++ chains) s
first_of (RestOfExpr a) s = among chains s
first_of (BehindAnd a o) s = among (word words.Then ∷ simples) s
first_of (BehindOr a o) s = among (word words.Else ∷ simples) s
first_of (Chain operator a) s = among chains s
first_of (RestOfRel a) s = among comparisons s
first_of (Sums a) s = is_in classes.Adding s
first_of Term s = among factors s
first_of (Products a) s = is_in classes.Multiplying s
first_of Factor s = among factors s
first_of Powered s = among primaries s
first_of Primary s = among primaries s
first_of (Parens o) s = among (word words.If ∷ word words.Others ∷ simples) s
first_of (Arms t arms) s = among (word words.Elsif ∷ word words.Else ∷ []) s
first_of (InParens o) s = among (word words.Others ∷ simples) s
first_of (NamedFrom o c) s = among (mark marks.Bar ∷ mark marks.Arrow ∷ []) s
first_of (BehindExpr o e) s = among (mark marks.Close ∷ mark marks.Comma ∷ mark marks.Bar ∷ mark marks.Arrow ∷ []) s
first_of (Items o items) s = among (mark marks.Comma ∷ mark marks.Close ∷ []) s
first_of (LastItem o items) s = is_in (mark marks.Arrow) s
first_of Association s = among (word words.Others ∷ simples) s
first_of (Choices first choices) s = among (mark marks.Bar ∷ mark marks.Arrow ∷ []) s
first_of (Associations o associations) s = among (mark marks.Comma ∷ mark marks.Close ∷ []) s
first_of Choice s = among (word words.Others ∷ simples) s
first_of Name s = is_in classes.Word s
first_of (Suffixes true a) s = among name_suffixes s
first_of (Suffixes false a) s = among (mark marks.Dot ∷ mark marks.Tick ∷ []) s
first_of (MayOpen true a) s = is_in (mark marks.Open) s
first_of (MayOpen false a) s = false
first_of (BehindTick a) s = among (classes.AttributeName ∷ mark marks.Open ∷ []) s
first_of (BehindAttribute a n) s = among name_suffixes s
first_of (Values first n values) s = among (mark marks.Comma ∷ mark marks.Close ∷ []) s
first_of (Arguments first arguments) s = among (mark marks.Comma ∷ mark marks.Close ∷ []) s
first_of (SubtypeRange a) s = is_in (word words.Range) s
first_of UnitName s = is_in classes.Word s
first_of (Points a) s = is_in (mark marks.Dot) s
first_of Indication s = is_in classes.Word s
first_of (IndicationFrom a) s = is_in (word words.Range) s
first_of (Balanced n) s = among (mark marks.Close ∷ classes.Enclosed ∷ mark marks.Open ∷ []) s
first_of SkippedTokens s = among (mark marks.Open ∷ classes.Skipped ∷ []) s
first_of Pragma s = among (classes.Word ∷ []) s
first_of (Aspects d) s = among (word words.With ∷ []) s
first_of (OptionalAspects d) s = among (word words.With ∷ []) s
first_of (BehindWith d) s = among (classes.Word ∷ []) s
first_of (MoreAspects d) s = among (mark marks.Comma ∷ []) s
first_of (Aspect d) s = among (classes.Word ∷ []) s
first_of (AspectOf which name d) s = among (mark marks.Arrow ∷ []) s
first_of (Defined kind definition name d) s = among (mark marks.Arrow ∷ []) s
first_of (Atomic name d) s = among (mark marks.Arrow ∷ []) s
first_of (SkippedAspect defined alone name d) s = among (mark marks.Arrow ∷ []) s
first_of (DefinitionOf definition d) s = among (word words.Null ∷ mark marks.Open ∷ classes.Word ∷ []) s
first_of (NullOrItems d) s = among (word words.Null ∷ mark marks.Open ∷ classes.Word ∷ []) s
first_of (ItemsFrom span name d) s = among (mark marks.Close ∷ mark marks.Comma ∷ name_suffixes) s
first_of (MoreItems span items d) s = among (mark marks.Close ∷ mark marks.Comma ∷ []) s
first_of (GlobalDefinition d) s = among (word words.Null ∷ mark marks.Open ∷ classes.Word ∷ []) s
first_of (InGlobal span name d) s = among (mark marks.Arrow ∷ mark marks.Close ∷ mark marks.Comma ∷ name_suffixes) s
first_of (ModesFrom name d) s = among (word words.Null ∷ mark marks.Open ∷ classes.Word ∷ []) s
first_of (MoreModes d) s = among (mark marks.Close ∷ mark marks.Comma ∷ []) s
first_of (DependsDefinition d) s = among (word words.Null ∷ mark marks.Open ∷ []) s
first_of (Elements of d) s = among (word words.Null ∷ mark marks.Open ∷ classes.Word ∷ []) s
first_of (MoreElements of d) s = among (mark marks.Close ∷ mark marks.Comma ∷ []) s
first_of (Element of d) s = among (word words.Null ∷ mark marks.Open ∷ classes.Word ∷ []) s
first_of (Dependency d) s = among (word words.Null ∷ mark marks.Open ∷ classes.Word ∷ []) s
first_of (Refinement d) s = among (classes.Word ∷ []) s
first_of (Initialization d) s = among (classes.Word ∷ []) s
first_of (RefinedDefinition d) s = among (mark marks.Open ∷ []) s
first_of (InitializesDefinition d) s = among (word words.Null ∷ mark marks.Open ∷ classes.Word ∷ []) s
first_of (PartOf d) s = among (classes.Word ∷ []) s
first_of (StatesDefinition d) s = among (word words.Null ∷ mark marks.Open ∷ classes.Word ∷ []) s
first_of (InStates d) s = among (mark marks.Open ∷ classes.Word ∷ []) s
first_of (MoreStates d) s = among (mark marks.Close ∷ mark marks.Comma ∷ []) s
first_of (State d) s = among (mark marks.Open ∷ classes.Word ∷ []) s
first_of (StateWithOptions d) s = among (classes.Word ∷ []) s
first_of (Closing kind names own d) s = among (mark marks.Semicolon ∷ word words.With ∷ []) s
first_of (Names what names d) s = among (mark marks.Colon ∷ mark marks.Comma ∷ []) s
first_of (BehindNames what names d) s = among (word words.Constant ∷ word words.In ∷ word words.Out ∷ classes.Word ∷ []) s
first_of (Object names d) s = among (word words.Constant ∷ classes.Word ∷ []) s
first_of (ObjectFrom constant names d) s = among (classes.Word ∷ []) s
first_of (Component names d) s = among (classes.Word ∷ []) s
first_of (Formal names d) s = among (word words.In ∷ word words.Out ∷ classes.Word ∷ []) s
first_of (FormalMark kind names d) s = among (classes.Word ∷ []) s
first_of (LocalDeclarations d) s = among (classes.LocalDeclaration ∷ []) s
first_of (LocalDeclaration which first d) s = among (mark marks.Colon ∷ mark marks.Comma ∷ word words.Type ∷ classes.Word ∷ []) s
first_of (UnitNames kind span d) s = among (classes.Word ∷ []) s
first_of (MoreUnitNames kind span own d) s = among (mark marks.Comma ∷ mark marks.Semicolon ∷ []) s
first_of (TypeDefinition name d) s = among (word words.Array ∷ word words.Mod ∷ word words.Null ∷ mark marks.Open ∷ word words.Private ∷ word words.Range ∷ word words.Record ∷ []) s
first_of (Literals name d) s = among (classes.Word ∷ []) s
first_of (MoreLiterals name own d) s = among (mark marks.Close ∷ mark marks.Comma ∷ []) s
first_of (RangeType name d) s = among (simples) s
first_of (ArrayType name d) s = among (mark marks.Open ∷ []) s
first_of (Components name d) s = among (classes.Word ∷ []) s
first_of (MoreComponents name own d) s = among (word words.End ∷ classes.Word ∷ []) s
first_of (Statements d) s = among (classes.Statement ∷ []) s
first_of (MoreStatements span own d) s = among (classes.Statement ∷ []) s
first_of (Statement which first d) s = among (mark marks.Becomes ∷ mark marks.Colon ∷ mark marks.Dot ∷ classes.LocalDeclaration ∷ mark marks.Semicolon ∷ classes.Statement ∷ mark marks.Tick ∷ word words.Until ∷ word words.When ∷ simples) s
first_of (NamedStatement first d) s = among (mark marks.Becomes ∷ mark marks.Colon ∷ mark marks.Semicolon ∷ name_suffixes) s
first_of (BehindName span own d) s = among (mark marks.Becomes ∷ mark marks.Semicolon ∷ []) s
first_of (Labelled which first own d) s = among (classes.LocalDeclaration ∷ classes.Statement ∷ simples) s
first_of (If first d) s = among (simples) s
first_of (MoreArms span own d) s = among (word words.Else ∷ word words.Elsif ∷ word words.End ∷ []) s
first_of (EndIf kind span own d) s = among (word words.End ∷ []) s
first_of (Case first d) s = among (simples) s
first_of (MoreAlternatives span own d) s = among (word words.End ∷ word words.When ∷ []) s
first_of (Alternative span d) s = among (word words.Others ∷ simples) s
first_of (MoreChoices span own d) s = among (mark marks.Arrow ∷ mark marks.Bar ∷ []) s
first_of (While labelled first own d) s = among (simples) s
first_of (For labelled first own d) s = among (classes.Word ∷ []) s
first_of (ForRange parameter name kind span own d) s = among (simples) s
first_of (LoopBody kind span own d) s = among (classes.Statement ∷ []) s
first_of (Declare labelled first own d) s = among (word words.Begin ∷ classes.LocalDeclaration ∷ []) s
first_of (BlockBody kind span own d) s = among (classes.Statement ∷ []) s
first_of (EndOfStatement kind span own d) s = among (mark marks.Semicolon ∷ classes.Word ∷ []) s
first_of (Exit first d) s = among (mark marks.Semicolon ∷ word words.When ∷ classes.Word ∷ []) s
first_of (Return first d) s = among (mark marks.Semicolon ∷ simples) s
first_of (ProperBody d) s = among (word words.Begin ∷ classes.LocalDeclaration ∷ []) s
first_of (EndOfDeclaration kind name own d) s = among (mark marks.Semicolon ∷ classes.Word ∷ []) s
first_of (EndOfUnit kind name own d) s = among (mark marks.Semicolon ∷ classes.Word ∷ []) s
first_of (Formals d) s = among (classes.Word ∷ []) s
first_of (MoreFormals d) s = among (mark marks.Close ∷ mark marks.Semicolon ∷ []) s
first_of (Procedure region d) s = among (classes.Word ∷ []) s
first_of (Function region d) s = among (classes.Word ∷ []) s
first_of (FunctionResult region head name own d) s = among (word words.Return ∷ []) s
first_of (BehindHead region head name own d) s = among (word words.Is ∷ mark marks.Semicolon ∷ word words.With ∷ []) s
first_of (NullOrValue head name own d) s = among (word words.Null ∷ mark marks.Open ∷ []) s
first_of (AnyCompletion head name own d) s = among (word words.Begin ∷ classes.LocalDeclaration ∷ word words.Null ∷ mark marks.Open ∷ []) s
first_of (ValueOrBody head name own d) s = among (word words.Begin ∷ classes.LocalDeclaration ∷ mark marks.Open ∷ []) s
first_of (Value head name own d) s = among (simples) s
first_of (SubprogramBody head name own d) s = among (word words.Begin ∷ classes.LocalDeclaration ∷ []) s
first_of (Task d) s = among (word words.Type ∷ classes.Word ∷ []) s
first_of (TaskNamed is_type d) s = among (classes.Word ∷ []) s
first_of (TaskDefinition kind name own d) s = among (word words.End ∷ word words.Pragma ∷ []) s
first_of (TaskInBody d) s = among (word words.Body ∷ word words.Type ∷ classes.Word ∷ []) s
first_of (TaskBody d) s = among (classes.Word ∷ []) s
first_of (Protected d) s = among (word words.Type ∷ classes.Word ∷ []) s
first_of (ProtectedNamed is_type d) s = among (classes.Word ∷ []) s
first_of (Operations d) s = among (classes.Operation ∷ []) s
first_of (PrivateItems d) s = among (classes.PrivateItem ∷ []) s
first_of (Operation which first d) s = among (mark marks.Colon ∷ mark marks.Comma ∷ classes.Word ∷ []) s
first_of (Entry d) s = among (classes.Word ∷ []) s
first_of (ProtectedInBody d) s = among (word words.Body ∷ word words.Type ∷ classes.Word ∷ []) s
first_of (ProtectedBody d) s = among (classes.Word ∷ []) s
first_of (OperationBodies d) s = among (classes.OperationBody ∷ []) s
first_of (OperationBody which d) s = among (classes.Word ∷ []) s
first_of (EntryBody d) s = among (classes.Word ∷ []) s
first_of (Barrier has_formals name own d) s = among (word words.When ∷ []) s
first_of (Declarations region d) s = among (classes.Declaration ∷ []) s
first_of (Declaration region which first d) s = among (word words.Body ∷ mark marks.Colon ∷ mark marks.Comma ∷ word words.Type ∷ classes.Word ∷ []) s
first_of (TaskIn region d) s = among (word words.Body ∷ word words.Type ∷ classes.Word ∷ []) s
first_of (ProtectedIn region d) s = among (word words.Body ∷ word words.Type ∷ classes.Word ∷ []) s
first_of (MainUnit own d) s = among (classes.Word ∷ []) s
first_of (PackageUnit own d) s = among (word words.Body ∷ classes.Word ∷ []) s
first_of (SpecUnit own d) s = among (classes.Word ∷ []) s
first_of (BodyUnit own d) s = among (classes.Word ∷ []) s
first_of File s = is_in classes.FileItem s
first_of (InFile ends context d) s = is_in classes.FileItem s
first_of (FileItem which first ends context d) s = among (word words.Body ∷ word words.Type ∷ classes.Word ∷ []) s
first_of p s = among simples s

-- the phrases that a part gives for no tokens
abbrev pub empties_of : Part → List Phrase
empties_of (Continued a) = a ∷ []
empties_of (RestOfExpr a) = a ∷ []
empties_of (Chain operator a) = a ∷ []
empties_of (RestOfRel a) = a ∷ []
empties_of (Sums a) = a ∷ []
empties_of (Products a) = a ∷ []
empties_of (Suffixes may_open a) = a ∷ []
empties_of (MayOpen may_open a) = a ∷ []
empties_of (BehindAttribute a n) = phrases.attribute n.token.kind a n ∷ []
empties_of (SubtypeRange a) = phrases.subtype_range (phrases.indication a) ∷ []
empties_of (Points a) = a ∷ []
empties_of (IndicationFrom a) = phrases.indication a ∷ []
empties_of SkippedTokens = phrases.blank ∷ []
empties_of (OptionalAspects d) = phrases.gives d ∷ []
empties_of (MoreAspects d) = phrases.gives d ∷ []
empties_of (Atomic name d) = phrases.gives (phrases.named_aspect (aspects.Atomic false) name phrases.none d) ∷ []
empties_of (SkippedAspect defined alone name d) = phrases.gives (phrases.named_aspect alone name phrases.none d) ∷ []
empties_of (LocalDeclarations d) = phrases.gives d ∷ []
empties_of (MoreStatements span own d) = phrases.gives (phrases.statement stmts.Sequence span own d) ∷ []
empties_of (Operations d) = phrases.gives d ∷ []
empties_of (PrivateItems d) = phrases.gives d ∷ []
empties_of (OperationBodies d) = phrases.gives d ∷ []
empties_of (Declarations region d) = phrases.gives d ∷ []
empties_of (AspectOf aspect_names.Atomic name d) = phrases.gives (phrases.named_aspect (aspects.Atomic false) name phrases.none d) ∷ []
empties_of (AspectOf aspect_names.Skipped name d) = phrases.gives (phrases.named_aspect (aspects.Skipped false) name phrases.none d) ∷ []
empties_of (AspectOf aspect_names.Unknown name d) = phrases.gives (phrases.named_aspect (aspects.Unknown false) name phrases.none d) ∷ []
empties_of File = phrases.gives phrases.none ∷ []
empties_of (InFile ends context d) = phrases.gives d ∷ []
empties_of p = []
