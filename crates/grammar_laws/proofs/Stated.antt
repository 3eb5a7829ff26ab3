-- Behind statements the open compound statements and loops are what they were.
use Rattle.std.proofs.Common.{◌≡◌, ℕ, zero, suc, ◌+◌, ◌-◌, ◌<◌, ◌≤◌, Bool, true, false, not, ◌&&◌, ◌||◌, if◌then◌else◌, nat_eq, nat_le, List, [], ◌∷◌, Option, Some, None, refl, sym, ◌∙◌, ap, subst, arith, leb-true}
use Rattle.std.proofs.lemmas.Bool.{eqb-true}
use Rattle.ada_tree.specs.declared.token.TokenKind.{TokenKind}
use Rattle.ada_tree.specs.declared.token.TokenKind.TheVariants as kinds
use Rattle.ada_tree.specs.declared.token.Mark.{Mark}
use Rattle.ada_tree.specs.declared.token.Mark.TheVariants as marks
use Rattle.ada_tree.specs.declared.words.Reserved.{Reserved}
use Rattle.ada_tree.specs.declared.words.Reserved.TheVariants as words
use Rattle.ada_tree.specs.declared.identifiers.WordRole.TheVariants as roles
use Rattle.ada_tree.specs.declared.identifiers.AspectName.TheVariants as aspect_names
use Rattle.ada_tree.specs.declared.expressions.LogicalOperator.TheVariants as logical
use Rattle.ada_tree.specs.declared.declarations.DeclKind.TheVariants as decls
use Rattle.ada_tree.specs.declared.forms.Definition.TheVariants as definitions
use Rattle.ada_tree.specs.declared.forms.Listing.TheVariants as listings
use Rattle.ada_tree.specs.declared.forms.Naming.TheVariants as naming
use Rattle.ada_tree.specs.declared.forms.LocalForm.{LocalForm}
use Rattle.ada_tree.specs.declared.forms.LocalForm.TheVariants as locals
use Rattle.ada_tree.specs.declared.forms.StatementForm.{StatementForm}
use Rattle.ada_tree.specs.declared.forms.StatementForm.TheVariants as statements
use Rattle.ada_tree.specs.declared.forms.CompoundForm.{CompoundForm}
use Rattle.ada_tree.specs.declared.forms.CompoundForm.TheVariants as compounds
use Rattle.ada_tree.specs.Forms.{statement_form, compound_form, local_form}
use Rattle.spark_base.specs.declared.numbers.Span.{Span}
use Rattle.ada_grammar.specs.declared.tokens.Class.{Class}
use Rattle.ada_grammar.specs.declared.tokens.Class.TheVariants as classes
use Rattle.ada_grammar.specs.declared.tokens.Last.{Last}
use Rattle.ada_grammar.specs.declared.tokens.Last.TheVariants as lasts
use Rattle.ada_grammar.specs.declared.tokens.LoopHead.{LoopHead}
use Rattle.ada_grammar.specs.declared.tokens.LoopHead.TheVariants as heads
use Rattle.ada_grammar.specs.declared.tokens.Nesting.{Nesting}
use Rattle.ada_grammar.specs.declared.weights.Weight.{Weight}
use Rattle.ada_grammar.specs.declared.weights.Weight.TheVariants as weights
use Rattle.ada_grammar.specs.Sorts.{Sort, WordSort, NumberSort, ReservedSort, MarkSort, is_in, is_word, sort_of, opens_statement, opens_compound, opens_local}
use Rattle.ada_grammar.specs.Lexemes.{Lexeme, sort}
use Rattle.ada_grammar.specs.Limits.{is_end, is_parameter, weight_of, last_of, step, walk}
use Rattle.ada_grammar.specs.Phrases as phrases
use Rattle.ada_grammar.specs.Phrases.{Phrase, Tree, Children}
use Rattle.ada_grammar.specs.Parts.{Part, Expr, Continued, RestOfExpr, BehindAnd, BehindOr, Opened, Begun, Chain, Rel, RestOfRel, Membership, Simple, Signed, Sums, Term, Products, Factor, Powered, Primary, Parens, Condition, Arms, InParens, NamedFrom, BehindExpr, Items, LastItem, Association, Choices, Associations, Choice, Name, Suffixes, MayOpen, BehindTick, BehindAttribute, ValuesFrom, Values, ArgumentsFrom, Arguments, Argument, Drange, SubtypeRange, UnitName, Points, Indication, IndicationFrom, SkippedTokens, Pragma, BehindWith, MoreAspects, Aspect, AspectOf, Defined, Atomic, SkippedAspect, DefinitionOf, NullOrItems, ItemsFrom, MoreItems, GlobalDefinition, InGlobal, ModesFrom, MoreModes, DependsDefinition, Elements, MoreElements, Element, Dependency, Refinement, Initialization, RefinedDefinition, InitializesDefinition, PartOf, StatesDefinition, InStates, MoreStates, State, StateWithOptions, Closing, Names, BehindNames, Object, ObjectFrom, Component, Formal, FormalMark, LocalDeclarations, LocalDeclaration, UnitNames, MoreUnitNames, TypeDefinition, Literals, MoreLiterals, RangeType, ArrayType, Components, MoreComponents, Statements, MoreStatements, Statement, NamedStatement, BehindName, Labelled, If, MoreArms, EndIf, Case, MoreAlternatives, Alternative, MoreChoices, While, For, ForRange, LoopBody, Declare, BlockBody, EndOfStatement, Exit, Return, Balanced, Body, Never, Gives, Take, Call, Rest, Or, When, is_none, one_less}
use Rattle.ada_grammar.specs.Grammar.{rule}
use Rattle.ada_grammar.specs.Spelling.{Fits, gives, take, call, rest, left, right, yes, no, Spells}
use Rattle.ada_grammar.proofs.EverySort.{all_sorts, by_sort, one_word}
use Rattle.grammar_laws.specs.Closing.{InStatements, IsClosed}
use Rattle.grammar_laws.proofs.Tracks.{Known, was_other, Tracks, one_mark}
use Rattle.grammar_laws.proofs.Counted.{is_part, closes, floor, roof, needed, behind_in, serves, serves_goes, begins as begins_expression, owed as owed_expression, sound, between, walk_parts}
use Rattle.grammar_laws.proofs.Places.{Place, Keeps, more_than_none, was_end, weighed_by, skipped_by, then_plain, ended_by, last_put, weighed_at}
use Rattle.grammar_laws.proofs.Formed.{Holds, each, nothing}
use Rattle.ada_grammar.proofs.Begins.{only_if, holds}
use Rattle.grammar_laws.proofs.Tests.{if_true, if_false, none_some, some_same, went, and_parts, not_true, true_false, false_true}

-- where a part stands: among statements, elsewhere, behind end, in the index of an array
pub data Context : Type 0 where
  Inside : Context
  Outside : Context
  AtEnd : Context
  Indexing : Context

-- before a statement, and behind a token that is no end
abbrev pub stating : Place
stating = record { skips = false; ground = true; deep = 0; opened = 0; loops = 0; head = heads.Nothing; inside = true; last = None; parted = 1 }

abbrev pub stated : Place
stated = record stating { last = Some lasts.Other }

abbrev pub in_loop : LoopHead → Place
in_loop h = record stated { opened = 1; loops = 1; head = h }

-- the same among declarations
abbrev pub declaring : Place
declaring = record stating { inside = false }

abbrev pub declared : Place
declared = record stated { inside = false }

-- in an aspect
abbrev pub skipping : Place
skipping = record declaring { skips = true; ground = false; parted = 2 }

-- behind the first token of a statement, by what it begins
abbrev pub begun : StatementForm → Place
begun statements.Pragma = record stated { skips = true }
begun statements.If = record stated { opened = 1 }
begun statements.Case = record stated { opened = 1 }
begun statements.While = in_loop heads.Scheme
begun statements.For = in_loop heads.Parameter
begun statements.Loop = in_loop heads.Nothing
begun statements.Declare = record stated { opened = 1; inside = false }
begun statements.Begin = record stated { opened = 1 }
begun f = stated

abbrev pub begun_compound : CompoundForm → Place
begun_compound compounds.While = in_loop heads.Scheme
begun_compound compounds.For = in_loop heads.Parameter
begun_compound compounds.Loop = in_loop heads.Nothing
begun_compound compounds.Declare = record stated { opened = 1; inside = false }
begun_compound compounds.Begin = record stated { opened = 1 }

abbrev pub begun_local : LocalForm → Place
begun_local locals.Pragma = record declared { skips = true }
begun_local f = declared

-- which parts stand where, what is known before them, and behind them
abbrev pub stands : Part → Context → Bool
stands Expr x = true
stands (Continued x1) x = true
stands (RestOfExpr x1) x = true
stands (BehindAnd x1 x2) x = true
stands (BehindOr x1 x2) x = true
stands (Opened x1 x2 x3) x = true
stands (Begun x1 x2 x3) x = true
stands (Chain x1 x2) x = true
stands Rel x = true
stands (RestOfRel x1) x = true
stands (Membership x1 x2) x = true
stands Simple x = true
stands Signed x = true
stands (Sums x1) x = true
stands Term x = true
stands (Products x1) x = true
stands Factor x = true
stands Powered x = true
stands Primary x = true
stands (Parens x1) x = true
stands (Condition x1) x = true
stands (Arms x1 x2) x = true
stands (InParens x1) x = true
stands (NamedFrom x1 x2) x = true
stands (BehindExpr x1 x2) x = true
stands (Items x1 x2) x = true
stands (LastItem x1 x2) x = true
stands Association x = true
stands (Choices x1 x2) x = true
stands (Associations x1 x2) x = true
stands Choice Inside = true
stands Choice Outside = true
stands Choice x = false
stands Name x = true
stands (Suffixes x1 x2) x = true
stands (MayOpen x1 x2) x = true
stands (BehindTick x1) x = true
stands (BehindAttribute x1 x2) x = true
stands (ValuesFrom x1 x2) x = true
stands (Values x1 x2 x3) x = true
stands (ArgumentsFrom x1) x = true
stands (Arguments x1 x2) x = true
stands Argument x = true
stands Drange Inside = true
stands Drange Indexing = true
stands (SubtypeRange x1) Inside = true
stands (SubtypeRange x1) Indexing = true
stands UnitName Outside = true
stands UnitName Indexing = true
stands (Points x1) Outside = true
stands (Points x1) Indexing = true
stands Indication x = true
stands (IndicationFrom x1) x = true
stands SkippedTokens x = true
stands Pragma Inside = true
stands Pragma Outside = true
stands (BehindWith x1) x = true
stands (MoreAspects x1) x = true
stands (Aspect x1) x = true
stands (AspectOf x1 x2 x3) x = true
stands (Defined x1 x2 x3 x4) x = true
stands (Atomic x1 x2) x = true
stands (SkippedAspect x1 x2 x3 x4) x = true
stands (DefinitionOf x1 x2) x = true
stands (NullOrItems x1) x = true
stands (ItemsFrom x1 x2 x3) x = true
stands (MoreItems x1 x2 x3) x = true
stands (GlobalDefinition x1) x = true
stands (InGlobal x1 x2 x3) x = true
stands (ModesFrom x1 x2) x = true
stands (MoreModes x1) x = true
stands (DependsDefinition x1) x = true
stands (Elements x1 x2) x = true
stands (MoreElements x1 x2) x = true
stands (Element x1 x2) x = true
stands (Dependency x1) x = true
stands (Refinement x1) x = true
stands (Initialization x1) x = true
stands (RefinedDefinition x1) x = true
stands (InitializesDefinition x1) x = true
stands (PartOf x1) x = true
stands (StatesDefinition x1) x = true
stands (InStates x1) x = true
stands (MoreStates x1) x = true
stands (State x1) x = true
stands (StateWithOptions x1) x = true
stands (Closing x1 x2 x3 x4) x = true
stands (Names x1 x2 x3) x = true
stands (BehindNames x1 x2 x3) x = true
stands (Object x1 x2) x = true
stands (ObjectFrom x1 x2 x3) x = true
stands (Component x1 x2) x = true
stands (Formal x1 x2) x = true
stands (FormalMark x1 x2 x3) x = true
stands (LocalDeclarations x1) x = true
stands (LocalDeclaration x1 x2 x3) x = true
stands (UnitNames x1 x2 x3) x = true
stands (MoreUnitNames x1 x2 x3 x4) x = true
stands (TypeDefinition x1 x2) x = true
stands (Literals x1 x2) x = true
stands (MoreLiterals x1 x2 x3) x = true
stands (RangeType x1 x2) x = true
stands (ArrayType x1 x2) x = true
stands (Components x1 x2) x = true
stands (MoreComponents x1 x2 x3) x = true
stands (Statements x1) x = true
stands (MoreStatements x1 x2 x3) x = true
stands (Statement x1 x2 x3) x = true
stands (NamedStatement x1 x2) x = true
stands (BehindName x1 x2 x3) x = true
stands (Labelled x1 x2 x3 x4) x = true
stands (If x1 x2) x = true
stands (MoreArms x1 x2 x3) x = true
stands (EndIf x1 x2 x3 x4) x = true
stands (Case x1 x2) x = true
stands (MoreAlternatives x1 x2 x3) x = true
stands (Alternative x1 x2) x = true
stands (MoreChoices x1 x2 x3) x = true
stands (While x1 x2 x3 x4) x = true
stands (For x1 x2 x3 x4) x = true
stands (ForRange x1 x2 x3 x4 x5 x6) x = true
stands (LoopBody x1 x2 x3 x4) x = true
stands (Declare x1 x2 x3 x4) x = true
stands (BlockBody x1 x2 x3 x4) x = true
stands (EndOfStatement x1 x2 x3 x4) Inside = true
stands (EndOfStatement x1 x2 x3 x4) AtEnd = true
stands (Exit x1 x2) x = true
stands (Return x1 x2) x = true
stands p x = false

abbrev pub begins : Part → Context → Place
begins Expr x = record skipping { deep = floor Expr }
begins (Continued x1) x = record skipping { deep = floor (Continued x1) }
begins (RestOfExpr x1) x = record skipping { deep = floor (RestOfExpr x1) }
begins (BehindAnd x1 x2) x = record skipping { deep = floor (BehindAnd x1 x2) }
begins (BehindOr x1 x2) x = record skipping { deep = floor (BehindOr x1 x2) }
begins (Opened x1 x2 x3) x = record skipping { deep = floor (Opened x1 x2 x3) }
begins (Begun x1 x2 x3) x = record skipping { deep = floor (Begun x1 x2 x3) }
begins (Chain x1 x2) x = record skipping { deep = floor (Chain x1 x2) }
begins Rel x = record skipping { deep = floor Rel }
begins (RestOfRel x1) x = record skipping { deep = floor (RestOfRel x1) }
begins (Membership x1 x2) x = record skipping { deep = floor (Membership x1 x2) }
begins Simple x = record skipping { deep = floor Simple }
begins Signed x = record skipping { deep = floor Signed }
begins (Sums x1) x = record skipping { deep = floor (Sums x1) }
begins Term x = record skipping { deep = floor Term }
begins (Products x1) x = record skipping { deep = floor (Products x1) }
begins Factor x = record skipping { deep = floor Factor }
begins Powered x = record skipping { deep = floor Powered }
begins Primary x = record skipping { deep = floor Primary }
begins (Parens x1) x = record skipping { deep = floor (Parens x1) }
begins (Condition x1) x = record skipping { deep = floor (Condition x1) }
begins (Arms x1 x2) x = record skipping { deep = floor (Arms x1 x2) }
begins (InParens x1) x = record skipping { deep = floor (InParens x1) }
begins (NamedFrom x1 x2) x = record skipping { deep = floor (NamedFrom x1 x2) }
begins (BehindExpr x1 x2) x = record skipping { deep = floor (BehindExpr x1 x2) }
begins (Items x1 x2) x = record skipping { deep = floor (Items x1 x2) }
begins (LastItem x1 x2) x = record skipping { deep = floor (LastItem x1 x2) }
begins Association x = record skipping { deep = floor Association }
begins (Choices x1 x2) x = record skipping { deep = floor (Choices x1 x2) }
begins (Associations x1 x2) x = record skipping { deep = floor (Associations x1 x2) }
begins Choice Inside = stating
begins Choice x = record skipping { deep = 1 }
begins Name x = record skipping { deep = floor Name }
begins (Suffixes x1 x2) x = record skipping { deep = floor (Suffixes x1 x2) }
begins (MayOpen x1 x2) x = record skipping { deep = floor (MayOpen x1 x2) }
begins (BehindTick x1) x = record skipping { deep = floor (BehindTick x1) }
begins (BehindAttribute x1 x2) x = record skipping { deep = floor (BehindAttribute x1 x2) }
begins (ValuesFrom x1 x2) x = record skipping { deep = floor (ValuesFrom x1 x2) }
begins (Values x1 x2 x3) x = record skipping { deep = floor (Values x1 x2 x3) }
begins (ArgumentsFrom x1) x = record skipping { deep = floor (ArgumentsFrom x1) }
begins (Arguments x1 x2) x = record skipping { deep = floor (Arguments x1 x2) }
begins Argument x = record skipping { deep = floor Argument }
begins Drange Inside = record stating { head = heads.Scheme }
begins Drange Indexing = record declaring { deep = 1; parted = 2 }
begins (SubtypeRange x1) Inside = record stated { head = heads.Scheme }
begins (SubtypeRange x1) Indexing = record declared { deep = 1; parted = 2 }
begins UnitName Outside = declaring
begins UnitName Indexing = record declaring { parted = 2 }
begins (Points x1) Outside = declared
begins (Points x1) Indexing = record declared { parted = 2 }
begins Indication x = declaring
begins (IndicationFrom x1) x = declared
begins SkippedTokens x = skipping
begins Pragma Inside = record stated { skips = true }
begins Pragma Outside = record declared { skips = true }
begins (BehindWith x1) x = skipping
begins (MoreAspects x1) x = skipping
begins (Aspect x1) x = skipping
begins (AspectOf x1 x2 x3) x = skipping
begins (Defined x1 x2 x3 x4) x = skipping
begins (Atomic x1 x2) x = skipping
begins (SkippedAspect x1 x2 x3 x4) x = skipping
begins (DefinitionOf x1 x2) x = skipping
begins (NullOrItems x1) x = skipping
begins (ItemsFrom x1 x2 x3) x = record skipping { deep = 1 }
begins (MoreItems x1 x2 x3) x = record skipping { deep = 1 }
begins (GlobalDefinition x1) x = skipping
begins (InGlobal x1 x2 x3) x = record skipping { deep = 1 }
begins (ModesFrom x1 x2) x = record skipping { deep = 1 }
begins (MoreModes x1) x = record skipping { deep = 1 }
begins (DependsDefinition x1) x = skipping
begins (Elements x1 x2) x = record skipping { deep = 1 }
begins (MoreElements x1 x2) x = record skipping { deep = 1 }
begins (Element x1 x2) x = skipping
begins (Dependency x1) x = skipping
begins (Refinement x1) x = skipping
begins (Initialization x1) x = skipping
begins (RefinedDefinition x1) x = skipping
begins (InitializesDefinition x1) x = skipping
begins (PartOf x1) x = skipping
begins (StatesDefinition x1) x = skipping
begins (InStates x1) x = record skipping { deep = 1 }
begins (MoreStates x1) x = record skipping { deep = 1 }
begins (State x1) x = skipping
begins (StateWithOptions x1) x = record skipping { deep = 1 }
begins (Closing x1 x2 x3 x4) x = record declared { parted = 2 }
begins (Names x1 x2 x3) x = declared
begins (BehindNames x1 x2 x3) x = declared
begins (Object x1 x2) x = declared
begins (ObjectFrom x1 x2 x3) x = declared
begins (Component x1 x2) x = declared
begins (Formal x1 x2) x = declared
begins (FormalMark x1 x2 x3) x = declared
begins (LocalDeclarations x1) x = declared
begins (LocalDeclaration x1 x2 x3) x = begun_local x1
begins (UnitNames x1 x2 x3) x = declared
begins (MoreUnitNames x1 x2 x3 x4) x = declared
begins (TypeDefinition x1 x2) x = declaring
begins (Literals x1 x2) x = record declared { deep = 1 }
begins (MoreLiterals x1 x2 x3) x = record declared { deep = 1 }
begins (RangeType x1 x2) x = declared
begins (ArrayType x1 x2) x = record declared { parted = 2 }
begins (Components x1 x2) x = declared
begins (MoreComponents x1 x2 x3) x = declared
begins (Statements x1) x = stating
begins (MoreStatements x1 x2 x3) x = stated
begins (Statement x1 x2 x3) x = begun x1
begins (NamedStatement x1 x2) x = stated
begins (BehindName x1 x2 x3) x = stated
begins (Labelled x1 x2 x3 x4) x = begun_compound x1
begins (If x1 x2) x = record stated { opened = 1 }
begins (MoreArms x1 x2 x3) x = record stated { opened = 1 }
begins (EndIf x1 x2 x3 x4) x = record stated { opened = 1 }
begins (Case x1 x2) x = record stated { opened = 1 }
begins (MoreAlternatives x1 x2 x3) x = record stated { opened = 1 }
begins (Alternative x1 x2) x = stated
begins (MoreChoices x1 x2 x3) x = stated
begins (While x1 x2 x3 x4) x = in_loop heads.Scheme
begins (For x1 x2 x3 x4) x = in_loop heads.Parameter
begins (ForRange x1 x2 x3 x4 x5 x6) x = in_loop heads.Scheme
begins (LoopBody x1 x2 x3 x4) x = in_loop heads.Nothing
begins (Declare x1 x2 x3 x4) x = record stated { opened = 1; inside = false }
begins (BlockBody x1 x2 x3 x4) x = record stated { opened = 1 }
begins (EndOfStatement x1 x2 x3 x4) Inside = stated
begins (EndOfStatement x1 x2 x3 x4) AtEnd = record stated { opened = 1; last = Some lasts.End }
begins (Exit x1 x2) x = stated
begins (Return x1 x2) x = stated
begins p x = stating

abbrev pub ends : Part → Context → Place
ends Expr x = record skipping { deep = roof Expr }
ends (Continued x1) x = record skipping { deep = roof (Continued x1) }
ends (RestOfExpr x1) x = record skipping { deep = roof (RestOfExpr x1) }
ends (BehindAnd x1 x2) x = record skipping { deep = roof (BehindAnd x1 x2) }
ends (BehindOr x1 x2) x = record skipping { deep = roof (BehindOr x1 x2) }
ends (Opened x1 x2 x3) x = record skipping { deep = roof (Opened x1 x2 x3) }
ends (Begun x1 x2 x3) x = record skipping { deep = roof (Begun x1 x2 x3) }
ends (Chain x1 x2) x = record skipping { deep = roof (Chain x1 x2) }
ends Rel x = record skipping { deep = roof Rel }
ends (RestOfRel x1) x = record skipping { deep = roof (RestOfRel x1) }
ends (Membership x1 x2) x = record skipping { deep = roof (Membership x1 x2) }
ends Simple x = record skipping { deep = roof Simple }
ends Signed x = record skipping { deep = roof Signed }
ends (Sums x1) x = record skipping { deep = roof (Sums x1) }
ends Term x = record skipping { deep = roof Term }
ends (Products x1) x = record skipping { deep = roof (Products x1) }
ends Factor x = record skipping { deep = roof Factor }
ends Powered x = record skipping { deep = roof Powered }
ends Primary x = record skipping { deep = roof Primary }
ends (Parens x1) x = record skipping { deep = roof (Parens x1) }
ends (Condition x1) x = record skipping { deep = roof (Condition x1) }
ends (Arms x1 x2) x = record skipping { deep = roof (Arms x1 x2) }
ends (InParens x1) x = record skipping { deep = roof (InParens x1) }
ends (NamedFrom x1 x2) x = record skipping { deep = roof (NamedFrom x1 x2) }
ends (BehindExpr x1 x2) x = record skipping { deep = roof (BehindExpr x1 x2) }
ends (Items x1 x2) x = record skipping { deep = roof (Items x1 x2) }
ends (LastItem x1 x2) x = record skipping { deep = roof (LastItem x1 x2) }
ends Association x = record skipping { deep = roof Association }
ends (Choices x1 x2) x = record skipping { deep = roof (Choices x1 x2) }
ends (Associations x1 x2) x = record skipping { deep = roof (Associations x1 x2) }
ends Choice Inside = stated
ends Choice x = record skipping { deep = 1 }
ends Name x = record skipping { deep = roof Name }
ends (Suffixes x1 x2) x = record skipping { deep = roof (Suffixes x1 x2) }
ends (MayOpen x1 x2) x = record skipping { deep = roof (MayOpen x1 x2) }
ends (BehindTick x1) x = record skipping { deep = roof (BehindTick x1) }
ends (BehindAttribute x1 x2) x = record skipping { deep = roof (BehindAttribute x1 x2) }
ends (ValuesFrom x1 x2) x = record skipping { deep = roof (ValuesFrom x1 x2) }
ends (Values x1 x2 x3) x = record skipping { deep = roof (Values x1 x2 x3) }
ends (ArgumentsFrom x1) x = record skipping { deep = roof (ArgumentsFrom x1) }
ends (Arguments x1 x2) x = record skipping { deep = roof (Arguments x1 x2) }
ends Argument x = record skipping { deep = roof Argument }
ends Drange Inside = record stated { head = heads.Scheme }
ends Drange Indexing = record declared { deep = 1; parted = 2 }
ends (SubtypeRange x1) Inside = record stated { head = heads.Scheme }
ends (SubtypeRange x1) Indexing = record declared { deep = 1; parted = 2 }
ends UnitName Outside = declared
ends UnitName Indexing = record declared { parted = 2 }
ends (Points x1) Outside = declared
ends (Points x1) Indexing = record declared { parted = 2 }
ends Indication x = declared
ends (IndicationFrom x1) x = declared
ends SkippedTokens x = skipping
ends Pragma Inside = stated
ends Pragma Outside = declared
ends (BehindWith x1) x = skipping
ends (MoreAspects x1) x = skipping
ends (Aspect x1) x = skipping
ends (AspectOf x1 x2 x3) x = skipping
ends (Defined x1 x2 x3 x4) x = skipping
ends (Atomic x1 x2) x = skipping
ends (SkippedAspect x1 x2 x3 x4) x = skipping
ends (DefinitionOf x1 x2) x = skipping
ends (NullOrItems x1) x = skipping
ends (ItemsFrom x1 x2 x3) x = skipping
ends (MoreItems x1 x2 x3) x = skipping
ends (GlobalDefinition x1) x = skipping
ends (InGlobal x1 x2 x3) x = skipping
ends (ModesFrom x1 x2) x = skipping
ends (MoreModes x1) x = skipping
ends (DependsDefinition x1) x = skipping
ends (Elements x1 x2) x = skipping
ends (MoreElements x1 x2) x = skipping
ends (Element x1 x2) x = skipping
ends (Dependency x1) x = skipping
ends (Refinement x1) x = skipping
ends (Initialization x1) x = skipping
ends (RefinedDefinition x1) x = skipping
ends (InitializesDefinition x1) x = skipping
ends (PartOf x1) x = skipping
ends (StatesDefinition x1) x = skipping
ends (InStates x1) x = skipping
ends (MoreStates x1) x = skipping
ends (State x1) x = skipping
ends (StateWithOptions x1) x = skipping
ends (Closing x1 x2 x3 x4) x = declared
ends (Names x1 x2 x3) x = declared
ends (BehindNames x1 x2 x3) x = declared
ends (Object x1 x2) x = declared
ends (ObjectFrom x1 x2 x3) x = declared
ends (Component x1 x2) x = declared
ends (Formal x1 x2) x = declared
ends (FormalMark x1 x2 x3) x = declared
ends (LocalDeclarations x1) x = declared
ends (LocalDeclaration x1 x2 x3) x = declared
ends (UnitNames x1 x2 x3) x = declared
ends (MoreUnitNames x1 x2 x3 x4) x = declared
ends (TypeDefinition x1 x2) x = declared
ends (Literals x1 x2) x = declared
ends (MoreLiterals x1 x2 x3) x = declared
ends (RangeType x1 x2) x = declared
ends (ArrayType x1 x2) x = declared
ends (Components x1 x2) x = declared
ends (MoreComponents x1 x2 x3) x = declared
ends (Statements x1) x = stated
ends (MoreStatements x1 x2 x3) x = stated
ends (Statement x1 x2 x3) x = stated
ends (NamedStatement x1 x2) x = stated
ends (BehindName x1 x2 x3) x = stated
ends (Labelled x1 x2 x3 x4) x = stated
ends (If x1 x2) x = stated
ends (MoreArms x1 x2 x3) x = stated
ends (EndIf x1 x2 x3 x4) x = stated
ends (Case x1 x2) x = stated
ends (MoreAlternatives x1 x2 x3) x = stated
ends (Alternative x1 x2) x = stated
ends (MoreChoices x1 x2 x3) x = stated
ends (While x1 x2 x3 x4) x = stated
ends (For x1 x2 x3 x4) x = stated
ends (ForRange x1 x2 x3 x4 x5 x6) x = stated
ends (LoopBody x1 x2 x3 x4) x = stated
ends (Declare x1 x2 x3 x4) x = stated
ends (BlockBody x1 x2 x3 x4) x = stated
ends (EndOfStatement x1 x2 x3 x4) Inside = stated
ends (EndOfStatement x1 x2 x3 x4) AtEnd = stated
ends (Exit x1 x2) x = stated
ends (Return x1 x2) x = stated
ends p x = stated

abbrev pub same : Bool → Bool → Bool
same true b = b
same false b = not b

abbrev pub same_head : LoopHead → LoopHead → Bool
same_head heads.Nothing heads.Nothing = true
same_head heads.Parameter heads.Parameter = true
same_head heads.Scheme heads.Scheme = true
same_head h k = false

abbrev pub accepts : Option Last → Option Last → Bool
accepts None l = not (was_end l)
accepts (Some lasts.Other) l = was_other l
accepts (Some lasts.End) l = was_end l
accepts (Some k) l = false

-- what is known of the one place holds at the other, of which at least as much is open
abbrev pub similar : Place → Place → Bool
similar b s =
    same b.skips s.skips
    && (same_head b.head s.head
    && (same b.inside s.inside
    && ((b.skips || accepts b.last s.last)
    && (nat_le s.parted b.parted
    && only_if b.ground s.ground))))

abbrev pub exact : Place → Place → Bool
exact b s = similar b s && (nat_eq b.deep s.deep && (nat_eq b.opened s.opened && nat_eq b.loops s.loops))

abbrev pub fits : Place → Place → Bool
fits b s = similar b s && (nat_le b.deep s.deep && (nat_le b.opened s.opened && (nat_le b.loops s.loops && only_if b.ground (nat_eq b.deep s.deep))))

abbrev pub context_of : Place → Context
context_of s =
    if s.skips then (if s.inside then Inside else Outside) else
    (if was_end s.last then AtEnd else (if nat_eq s.parted 2 then Indexing else (if s.inside then Inside else Outside)))

-- expressions outside what is skipped
abbrev pub is_choice : Part → Bool
is_choice Choice = true
is_choice p = false

abbrev pub boxed : Part → Place → Bool
boxed q s = not s.skips && (is_part q && not (is_choice q))

abbrev pub is_balanced : Part → Bool
is_balanced (Balanced zero) = true
is_balanced p = false

abbrev pub box_fine : Part → Place → Bool
box_fine q s =
    serves (needed q) s.last
    && (not (behind_in q) && (nat_eq (floor q) 0 && (not (closes q) && (not (is_parameter s.head) && nat_le s.parted (s.deep + 1)))))

-- a part may stand there
abbrev pub fine : Part → Place → Bool
fine q s =
    if s.skips && is_balanced q then more_than_none s.deep else
    (if boxed q s then box_fine q s else (stands q (context_of s) && fits (begins q (context_of s)) s))

abbrev pub behind_part : Place → Place → Place → Place
behind_part b e s = record {
  skips = e.skips;
  ground = s.ground;
  deep = (s.deep - b.deep) + e.deep;
  opened = (s.opened - b.opened) + e.opened;
  loops = (s.loops - b.loops) + e.loops;
  head = e.head;
  inside = e.inside;
  last = e.last;
  parted = e.parted;
}

-- what is known behind a part that stood there
abbrev pub behind : Part → Place → Place
behind q s =
    if s.skips && is_balanced q then record s { deep = s.deep - 1; last = None } else
    (if boxed q s then record s { last = Some lasts.Other } else behind_part (begins q (context_of s)) (ends q (context_of s)) s)

abbrev pub sort_on : Sort → Place → Option Place
sort_on t s = last_put (last_of t) (weighed_by (weight_of t) s)

abbrev pub only_skipped : Place → Option Place
only_skipped s = if s.skips then Some (record s { last = None }) else None

-- what a token of a class does
abbrev pub taken : Class → Lexeme → Place → Option Place
taken classes.Word t s = sort_on (WordSort roles.Ordinary) s
taken classes.Number t s = sort_on NumberSort s
taken (classes.Reserved w) t s = sort_on (ReservedSort w) s
taken (classes.Mark m) t s = sort_on (MarkSort m) s
taken classes.Statement t s = if exact stating s then Some (begun (statement_form t.token.kind)) else None
taken classes.Compound t s = if exact stating s then Some (begun_compound (compound_form t.token.kind)) else None
taken classes.LocalDeclaration t s = if exact declaring s then Some (begun_local (local_form t.token.kind)) else None
taken classes.Relational t s = only_skipped s
taken classes.Adding t s = only_skipped s
taken classes.Multiplying t s = only_skipped s
taken classes.AttributeName t s = only_skipped s
taken classes.Mode t s = only_skipped s
taken classes.True t s = only_skipped s
taken classes.Skipped t s = only_skipped s
taken c t s = None

abbrev pub Going : Option Place → (Place → Type 0) → Type 0
Going None f = ⊥
Going (Some s) f = f s

-- what is left to show of a body of a part, from a place on
abbrev pub Owes : Part → Context → Body → Place → Type 0
Owes p x Never s = Unit {0}
Owes p x (Gives y) s = exact (ends p x) s ≡ true
Owes p x (Take c k) s = (t : Lexeme) → Going (taken c t s) (λ i. Owes p x (k t) i)
Owes p x (Call q k) s = (fine q s ≡ true) × ((a : Phrase) → Owes p x (k a) (behind q s))
Owes p x (Rest q) s = (fine q s ≡ true) × (exact (ends p x) (behind q s) ≡ true)
Owes p x (Or b c) s = Owes p x b s × Owes p x c s
Owes p x (When d b c) s = Owes p x b s × Owes p x c s

-- the statements and declarations that a first token tells
first_rows : (f : StatementForm) (t : Lexeme) (d : Children) (x : Context)
    → Owes (Statements d) x (Call (Statement f t phrases.none) (λ a. Rest (MoreStatements t.token.span a.children d))) (begun f)
first_rows statements.Null t d x = (refl, λ a. (refl, refl))
first_rows f t d x = (refl, λ a. (refl, refl))

next_rows : (f : StatementForm) (t : Lexeme) (span : Span) (own d : Children) (x : Context)
    → Owes (MoreStatements span own d) x (Call (Statement f t own) (λ a. Rest (MoreStatements span a.children d))) (begun f)
next_rows statements.Null t span own d x = (refl, λ a. (refl, refl))
next_rows f t span own d x = (refl, λ a. (refl, refl))

named_rows : (f : CompoundForm) (t first : Lexeme) (d : Children) (x : Context)
    → Owes (NamedStatement first d) x (Rest (Labelled f t (phrases.declared decls.StatementName first phrases.none phrases.none) d)) (begun_compound f)
named_rows compounds.While t first d x = (refl, refl)
named_rows f t first d x = (refl, refl)

local_rows : (f : LocalForm) (t : Lexeme) (d : Children) (x : Context)
    → Owes (LocalDeclarations d) x (Call (LocalDeclaration f t d) (λ a. Rest (LocalDeclarations a.children))) (begun_local f)
local_rows locals.Type t d x = (refl, λ a. (refl, refl))
local_rows f t d x = (refl, λ a. (refl, refl))

pub owed : (p : Part) (x : Context) → stands p x ≡ true → Owes p x (rule p) (begins p x)
owed Expr x z = (refl, λ i0. (refl, refl))
owed (Continued a) x z = (refl, λ i0. (refl, refl))
owed (RestOfExpr a) x z = (λ i0. (refl, refl), (λ i0. (refl, refl), (λ i0. (refl, refl), refl)))
owed (BehindAnd a o) x z = (λ i0. (refl, refl), (refl, refl))
owed (BehindOr a o) x z = (λ i0. (refl, refl), (refl, refl))
owed (Opened operator a o) x z = (refl, λ i0. (refl, refl))
owed (Begun operator a o) x z = (refl, λ i0. refl)
owed (Chain logical.And a) x z = (λ i0. (refl, λ i1. (refl, refl)), refl)
owed (Chain logical.Or a) x z = (λ i0. (refl, λ i1. (refl, refl)), refl)
owed (Chain logical.Xor a) x z = (λ i0. (refl, λ i1. (refl, refl)), refl)
owed (Chain logical.AndThen a) x z = (λ i0. λ i1. (refl, λ i2. (refl, refl)), refl)
owed (Chain logical.OrElse a) x z = (λ i0. λ i1. (refl, λ i2. (refl, refl)), refl)
owed Rel x z = (refl, λ i0. (refl, refl))
owed (RestOfRel a) x z = (λ i0. (refl, λ i1. refl), (λ i0. λ i1. (refl, refl), (λ i0. (refl, refl), refl)))
owed (Membership is_not a) x z = (refl, λ i0. (λ i1. (refl, λ i2. refl), (refl, tt)))
owed Simple x z = (refl, λ i0. (refl, refl))
owed Signed x z = (λ i0. (refl, λ i1. refl), (refl, refl))
owed (Sums a) x z = (λ i0. (refl, λ i1. (refl, refl)), refl)
owed Term x z = (refl, λ i0. (refl, refl))
owed (Products a) x z = (λ i0. (refl, λ i1. (refl, refl)), refl)
owed Factor x z = (λ i0. (refl, λ i1. refl), (λ i0. (refl, λ i1. refl), (refl, refl)))
owed Powered x z = (refl, λ i0. (λ i1. (refl, λ i2. refl), refl))
owed Primary x z = (λ i0. refl, (λ i0. (refl, refl), λ i0. (refl, refl)))
owed (Parens o) x z = (λ i0. (refl, λ i1. λ i2. refl), (refl, refl))
owed (Condition t) x z = (refl, λ i0. λ i1. (refl, λ i2. (refl, refl)))
owed (Arms t arms) x z = (λ i0. (refl, λ i1. λ i2. (refl, λ i3. (refl, refl))), λ i0. (refl, λ i1. refl))
owed (InParens o) x z = (λ i0. (refl, refl), (refl, λ i0. (λ i1. (refl, λ i2. (refl, refl)), (refl, λ i1. (refl, refl)))))
owed (NamedFrom o c) x z = (refl, λ i0. (refl, refl))
owed (BehindExpr o e) x z = (λ i0. refl, (λ i0. (refl, λ i1. (refl, refl)), (refl, refl)))
owed (Items o items) x z = (λ i0. (λ i1. (refl, refl), (refl, λ i1. (refl, refl))), λ i0. refl)
owed (LastItem o items) x z = λ i0. (refl, λ i1. λ i2. refl)
owed Association x z = (refl, λ i0. (refl, refl))
owed (Choices first choices) x z = (λ i0. (refl, λ i1. (refl, refl)), λ i0. (refl, λ i1. refl))
owed (Associations o associations) x z = (λ i0. (refl, λ i1. (refl, refl)), λ i0. refl)
owed Choice Inside z = (λ i0. refl, (refl, λ i0. (λ i1. (refl, λ i2. refl), (refl, λ i1. refl))))
owed Choice Outside z = (λ i0. refl, (refl, λ i0. (λ i1. (refl, λ i2. refl), (refl, λ i1. refl))))
owed Name x z = λ i0. (refl, refl)
owed (Suffixes may_open a) x z = (λ i0. λ i1. (refl, refl), (λ i0. (refl, refl), (refl, refl)))
owed (MayOpen true a) x z = (λ i0. (refl, λ i1. (refl, refl)), refl)
owed (MayOpen false a) x z = refl
owed (BehindTick a) x z = (λ i0. (refl, refl), λ i0. (refl, λ i1. (refl, refl)))
owed (BehindAttribute a n) x z = (λ i0. (refl, λ i1. (refl, refl)), (refl, refl))
owed (ValuesFrom a n) x z = (refl, λ i0. (refl, refl))
owed (Values first n values) x z = (λ i0. (refl, λ i1. (refl, refl)), λ i0. refl)
owed (ArgumentsFrom a) x z = (refl, λ i0. (refl, refl))
owed (Arguments first arguments) x z = (λ i0. (refl, λ i1. (refl, refl)), λ i0. refl)
owed Argument x z = (refl, λ i0. ((λ i1. (refl, λ i2. refl), refl), refl))
owed Drange Inside z = (refl, λ i0. (λ i1. (refl, λ i2. refl), ((refl, refl), (refl, tt))))
owed Drange Indexing z = (refl, λ i0. (λ i1. (refl, λ i2. refl), ((refl, refl), (refl, tt))))
owed (SubtypeRange a) Inside z = (λ i0. (refl, λ i1. λ i2. (refl, λ i3. refl)), refl)
owed (SubtypeRange a) Indexing z = (λ i0. (refl, λ i1. λ i2. (refl, λ i3. refl)), refl)
owed UnitName Outside z = λ i0. (refl, refl)
owed UnitName Indexing z = λ i0. (refl, refl)
owed (Points a) Outside z = (λ i0. λ i1. (refl, refl), refl)
owed (Points a) Indexing z = (λ i0. λ i1. (refl, refl), refl)
owed Indication x z = (refl, λ i0. (refl, refl))
owed (IndicationFrom a) x z = (λ i0. (refl, λ i1. λ i2. (refl, λ i3. refl)), refl)
owed SkippedTokens x z = (λ i0. (refl, refl), (λ i0. (refl, λ i1. (refl, refl)), refl))
owed Pragma Inside z = λ i0. (λ i1. (refl, λ i2. λ i3. refl), λ i1. refl)
owed Pragma Outside z = λ i0. (λ i1. (refl, λ i2. λ i3. refl), λ i1. refl)
owed (BehindWith d) x z = (refl, λ i0. (refl, refl))
owed (MoreAspects d) x z = (λ i0. (refl, λ i1. (refl, refl)), refl)
owed (Aspect d) x z = λ i0. (refl, refl)
owed (AspectOf aspect_names.Global name d) x z = (refl, refl)
owed (AspectOf aspect_names.RefinedGlobal name d) x z = (refl, refl)
owed (AspectOf aspect_names.Depends name d) x z = (refl, refl)
owed (AspectOf aspect_names.RefinedDepends name d) x z = (refl, refl)
owed (AspectOf aspect_names.AbstractState name d) x z = (refl, refl)
owed (AspectOf aspect_names.RefinedState name d) x z = (refl, refl)
owed (AspectOf aspect_names.Initializes name d) x z = (refl, refl)
owed (AspectOf aspect_names.PartOf name d) x z = (refl, refl)
owed (AspectOf aspect_names.Atomic name d) x z = (refl, refl)
owed (AspectOf aspect_names.Skipped name d) x z = (refl, refl)
owed (AspectOf aspect_names.Unknown name d) x z = (refl, refl)
owed (Defined kind definition name d) x z = λ i0. (refl, λ i1. refl)
owed (Atomic name d) x z = (λ i0. λ i1. refl, refl)
owed (SkippedAspect defined alone name d) x z = (λ i0. (refl, λ i1. refl), refl)
owed (DefinitionOf definitions.Global d) x z = (refl, refl)
owed (DefinitionOf definitions.Depends d) x z = (refl, refl)
owed (DefinitionOf definitions.States d) x z = (refl, refl)
owed (DefinitionOf definitions.RefinedState d) x z = (refl, refl)
owed (DefinitionOf definitions.Initializes d) x z = (refl, refl)
owed (DefinitionOf definitions.PartOf d) x z = (refl, refl)
owed (NullOrItems d) x z = (λ i0. refl, (λ i0. λ i1. (refl, refl), λ i0. (refl, λ i1. refl)))
owed (ItemsFrom span name d) x z = (refl, λ i0. (refl, refl))
owed (MoreItems span items d) x z = (λ i0. λ i1. (refl, λ i2. (refl, refl)), λ i0. refl)
owed (GlobalDefinition d) x z = (λ i0. refl, (λ i0. λ i1. (refl, refl), λ i0. (refl, λ i1. refl)))
owed (InGlobal span name d) x z = ((λ i0. (refl, refl), (refl, refl)), (refl, refl))
owed (ModesFrom name d) x z = (refl, λ i0. (refl, refl))
owed (MoreModes d) x z = (λ i0. λ i1. λ i2. (refl, λ i3. (refl, refl)), λ i0. refl)
owed (DependsDefinition d) x z = (λ i0. refl, λ i0. (refl, refl))
owed (Elements of d) x z = (refl, λ i0. (refl, refl))
owed (MoreElements of d) x z = (λ i0. (refl, λ i1. (refl, refl)), λ i0. refl)
owed (Element listings.Dependencies d) x z = (refl, refl)
owed (Element listings.Refinements d) x z = (refl, refl)
owed (Element listings.Initializations d) x z = (refl, refl)
owed (Dependency d) x z = (refl, λ i0. λ i1. (λ i2. (refl, λ i3. refl), (refl, λ i2. refl)))
owed (Refinement d) x z = λ i0. (refl, λ i1. λ i2. (refl, λ i3. refl))
owed (Initialization d) x z = λ i0. (refl, λ i1. (λ i2. (refl, λ i3. refl), refl))
owed (RefinedDefinition d) x z = λ i0. (refl, refl)
owed (InitializesDefinition d) x z = (λ i0. refl, (λ i0. (refl, refl), λ i0. (refl, λ i1. refl)))
owed (PartOf d) x z = λ i0. (refl, λ i1. refl)
owed (StatesDefinition d) x z = (λ i0. refl, (λ i0. refl, λ i0. (refl, refl)))
owed (InStates d) x z = (λ i0. (λ i1. (refl, λ i2. refl), (refl, refl)), λ i0. (refl, λ i1. (refl, refl)))
owed (MoreStates d) x z = (λ i0. (refl, λ i1. (refl, refl)), λ i0. refl)
owed (State d) x z = (λ i0. refl, λ i0. (refl, refl))
owed (StateWithOptions d) x z = λ i0. λ i1. (refl, λ i2. refl)
owed (Closing kind names own d) x z = (λ i0. (refl, λ i1. λ i2. refl), λ i0. refl)
owed (Names what names d) x z = (λ i0. λ i1. (refl, refl), λ i0. (refl, refl))
owed (BehindNames naming.Objects names d) x z = (refl, refl)
owed (BehindNames naming.Components names d) x z = (refl, refl)
owed (BehindNames naming.Formals names d) x z = (refl, refl)
owed (Object names d) x z = (λ i0. (λ i1. (refl, λ i2. λ i3. refl), (refl, refl)), (refl, refl))
owed (ObjectFrom constant names d) x z = (refl, λ i0. (λ i1. (refl, λ i2. (refl, refl)), (refl, refl)))
owed (Component names d) x z = (refl, λ i0. (λ i1. (refl, λ i2. λ i3. refl), λ i1. refl))
owed (Formal names d) x z = (λ i0. (λ i1. (refl, refl), (refl, refl)), (λ i0. (refl, refl), (refl, refl)))
owed (FormalMark kind names d) x z = (refl, λ i0. refl)
owed (LocalDeclarations d) x z = (λ t. local_rows (local_form t.token.kind) t d x, refl)
owed (LocalDeclaration locals.Type first d) x z = λ i0. λ i1. (refl, refl)
owed (LocalDeclaration locals.Subtype first d) x z = λ i0. λ i1. (refl, λ i2. (refl, refl))
owed (LocalDeclaration locals.Object first d) x z = (refl, refl)
owed (LocalDeclaration locals.Use first d) x z = (λ i0. (refl, refl), (refl, refl))
owed (LocalDeclaration locals.Pragma first d) x z = (refl, λ i0. refl)
owed (UnitNames kind span d) x z = (refl, λ i0. (refl, refl))
owed (MoreUnitNames kind span own d) x z = (λ i0. (refl, λ i1. (refl, refl)), λ i0. refl)
owed (TypeDefinition name d) x z = (λ i0. (refl, refl), (λ i0. (refl, refl), (λ i0. (refl, λ i1. (refl, refl)), (λ i0. (refl, refl), (λ i0. λ i1. (refl, refl), (λ i0. (refl, refl), λ i0. (refl, refl)))))))
owed (Literals name d) x z = λ i0. (refl, refl)
owed (MoreLiterals name own d) x z = (λ i0. λ i1. (refl, refl), λ i0. (refl, refl))
owed (RangeType name d) x z = (refl, λ i0. λ i1. (refl, λ i2. (refl, refl)))
owed (ArrayType name d) x z = λ i0. (refl, λ i1. λ i2. λ i3. (refl, λ i4. (refl, refl)))
owed (Components name d) x z = λ i0. (refl, λ i1. (refl, refl))
owed (MoreComponents name own d) x z = (λ i0. (refl, λ i1. (refl, refl)), λ i0. λ i1. (refl, refl))
owed (Statements d) x z = λ t. first_rows (statement_form t.token.kind) t d x
owed (MoreStatements span own d) x z = (λ t. next_rows (statement_form t.token.kind) t span own d x, refl)
owed (Statement statements.Null first d) x z = λ i0. refl
owed (Statement statements.Pragma first d) x z = (refl, λ i0. refl)
owed (Statement statements.Named first d) x z = (refl, refl)
owed (Statement statements.If first d) x z = (refl, refl)
owed (Statement statements.Case first d) x z = (refl, refl)
owed (Statement statements.While first d) x z = (refl, refl)
owed (Statement statements.For first d) x z = (refl, refl)
owed (Statement statements.Loop first d) x z = (refl, refl)
owed (Statement statements.Declare first d) x z = (refl, refl)
owed (Statement statements.Begin first d) x z = (refl, refl)
owed (Statement statements.Exit first d) x z = (refl, refl)
owed (Statement statements.Return first d) x z = (refl, refl)
owed (Statement statements.Delay first d) x z = λ i0. (refl, λ i1. λ i2. refl)
owed (NamedStatement first d) x z = (λ i0. λ t. named_rows (compound_form t.token.kind) t first d x, (refl, λ i1. (refl, refl)))
owed (BehindName span own d) x z = (λ i0. (refl, λ i1. λ i2. refl), λ i0. refl)
owed (Labelled compounds.While first own d) x z = (refl, refl)
owed (Labelled compounds.For first own d) x z = (refl, refl)
owed (Labelled compounds.Loop first own d) x z = (refl, refl)
owed (Labelled compounds.Declare first own d) x z = (refl, refl)
owed (Labelled compounds.Begin first own d) x z = (refl, refl)
owed (If first d) x z = (refl, λ i0. λ i1. (refl, λ i2. (refl, refl)))
owed (MoreArms span own d) x z = (λ i0. (refl, λ i1. λ i2. (refl, λ i3. (refl, refl))), (λ i0. (refl, λ i1. (refl, refl)), (refl, refl)))
owed (EndIf kind span own d) x z = λ i0. λ i1. λ i2. refl
owed (Case first d) x z = (refl, λ i0. λ i1. λ i2. (refl, λ i3. (refl, refl)))
owed (MoreAlternatives span own d) x z = (λ i0. (refl, λ i1. (refl, refl)), λ i0. λ i1. λ i2. refl)
owed (Alternative span d) x z = (refl, λ i0. (refl, refl))
owed (MoreChoices span own d) x z = (λ i0. (refl, λ i1. (refl, refl)), λ i0. (refl, λ i1. refl))
owed (While labelled first own d) x z = (refl, λ i0. λ i1. (refl, refl))
owed (For labelled first own d) x z = λ i0. λ i1. (λ i2. (refl, refl), (refl, refl))
owed (ForRange parameter name kind span own d) x z = (refl, λ i0. λ i1. (refl, refl))
owed (LoopBody kind span own d) x z = (refl, λ i0. λ i1. λ i2. (refl, refl))
owed (Declare labelled first own d) x z = (refl, λ i0. λ i1. (refl, refl))
owed (BlockBody kind span own d) x z = (refl, λ i0. λ i1. (refl, refl))
owed (EndOfStatement kind span own d) Inside z = (λ i0. λ i1. refl, λ i0. refl)
owed (EndOfStatement kind span own d) AtEnd z = (λ i0. λ i1. refl, λ i0. refl)
owed (Exit first d) x z = (λ i0. (λ i1. (refl, λ i2. λ i3. refl), λ i1. refl), (λ i0. (refl, λ i1. λ i2. refl), λ i0. refl))
owed (Return first d) x z = (λ i0. refl, (refl, λ i0. λ i1. refl))
owed p x z = false_true z

same_is : (a b : Bool) → same a b ≡ true → b ≡ a
same_is true b e = e
same_is false true e = cc
same_is false false e = refl

head_is : (a b : LoopHead) → same_head a b ≡ true → b ≡ a
head_is heads.Nothing heads.Nothing e = refl
head_is heads.Parameter heads.Parameter e = refl
head_is heads.Scheme heads.Scheme e = refl
head_is a b e = cc

not_end : (l : Option Last) (k : Last) → not (was_end l) ≡ true → Known l k → is_end k ≡ false
not_end None k e h = h
not_end (Some lasts.End) k e h = cc
not_end (Some l) k e h = ap is_end h ∙ other l e
  where
    other : (l : Last) → not (was_end (Some l)) ≡ true → is_end l ≡ false
    other lasts.End e = cc
    other l e = refl

accepts_known : (b l : Option Last) (k : Last) → accepts b l ≡ true → Known l k → Known b k
accepts_known None l k e h = not_end l k e h
accepts_known (Some lasts.Other) (Some lasts.Other) k e h = h
accepts_known (Some lasts.End) (Some lasts.End) k e h = h
accepts_known b l k e h = cc

or_right : (a b : Bool) → (a || b) ≡ true → a ≡ false → b ≡ true
or_right true b e h = cc
or_right false b e h = e

record Alike (b s : Place) : Type 0 where
  pub skips : s.skips ≡ b.skips
  pub head : s.head ≡ b.head
  pub inside : s.inside ≡ b.inside
  pub last : b.skips ≡ false → accepts b.last s.last ≡ true
  pub parted : s.parted ≤ b.parted
  pub ground : b.ground ≡ true → s.ground ≡ true

alike : (b s : Place) → similar b s ≡ true → Alike b s
alike b s e =
    let p = and_parts (same b.skips s.skips) (same_head b.head s.head && (same b.inside s.inside && ((b.skips || accepts b.last s.last) && (nat_le s.parted b.parted && only_if b.ground s.ground)))) e in
    let q = and_parts (same_head b.head s.head) (same b.inside s.inside && ((b.skips || accepts b.last s.last) && (nat_le s.parted b.parted && only_if b.ground s.ground))) p.1 in
    let r = and_parts (same b.inside s.inside) ((b.skips || accepts b.last s.last) && (nat_le s.parted b.parted && only_if b.ground s.ground)) q.1 in
    let t = and_parts (b.skips || accepts b.last s.last) (nat_le s.parted b.parted && only_if b.ground s.ground) r.1 in
    let u = and_parts (nat_le s.parted b.parted) (only_if b.ground s.ground) t.1 in
    record {
      skips = same_is b.skips s.skips p.0;
      head = head_is b.head s.head q.0;
      inside = same_is b.inside s.inside r.0;
      last = λ h. or_right b.skips (accepts b.last s.last) t.0 h;
      parted = leb-true s.parted b.parted u.0;
      ground = λ h. holds b.ground s.ground u.1 h;
    }

-- what is known at a place, in other words
exactly : (b s : Place) (c l d : ℕ) (n : Nesting) → exact b s ≡ true → Keeps c l d s n → Keeps c l d b n
exactly b s c l d n e k =
    let p = and_parts (similar b s) (nat_eq b.deep s.deep && (nat_eq b.opened s.opened && nat_eq b.loops s.loops)) e in
    let q = and_parts (nat_eq b.deep s.deep) (nat_eq b.opened s.opened && nat_eq b.loops s.loops) p.1 in
    let r = and_parts (nat_eq b.opened s.opened) (nat_eq b.loops s.loops) q.1 in
    let a = alike b s p.0 in
    let deep : b.deep ≡ s.deep = eqb-true b.deep s.deep q.0 in
    let opened : b.opened ≡ s.opened = eqb-true b.opened s.opened r.0 in
    let loops : b.loops ≡ s.loops = eqb-true b.loops s.loops r.1 in
    let t = k.held in
    let depth = t.depth in
    let compounds = t.compounds in
    let open_loops = t.loops in
    let parted = t.parted in
    let more = a.parted in
    record {
      held = record {
        depth = omega arith;
        compounds = omega arith;
        loops = omega arith;
        head = t.head ∙ a.head;
        in_statements = t.in_statements ∙ a.inside;
        skips = t.skips ∙ a.skips;
        parted = omega arith;
        operators = t.operators;
        ground = λ h. t.ground (a.ground h);
      };
      last = λ h. accepts_known b.last s.last n.last (a.last h) (k.last (a.skips ∙ h));
    }

-- a part begins where it may stand, and what is known behind it
enters : (b s : Place) (c l d : ℕ) (n : Nesting) → fits b s ≡ true → Keeps c l d s n
    → Keeps ((c + s.opened) - b.opened) ((l + s.loops) - b.loops) ((d + s.deep) - b.deep) b n
enters b s c l d n e k =
    let p = and_parts (similar b s) (nat_le b.deep s.deep && (nat_le b.opened s.opened && (nat_le b.loops s.loops && only_if b.ground (nat_eq b.deep s.deep)))) e in
    let q = and_parts (nat_le b.deep s.deep) (nat_le b.opened s.opened && (nat_le b.loops s.loops && only_if b.ground (nat_eq b.deep s.deep))) p.1 in
    let r = and_parts (nat_le b.opened s.opened) (nat_le b.loops s.loops && only_if b.ground (nat_eq b.deep s.deep)) q.1 in
    let u = and_parts (nat_le b.loops s.loops) (only_if b.ground (nat_eq b.deep s.deep)) r.1 in
    let a = alike b s p.0 in
    let deep : b.deep ≤ s.deep = leb-true b.deep s.deep q.0 in
    let opened : b.opened ≤ s.opened = leb-true b.opened s.opened r.0 in
    let loops : b.loops ≤ s.loops = leb-true b.loops s.loops u.0 in
    let t = k.held in
    let depth = t.depth in
    let compounds = t.compounds in
    let open_loops = t.loops in
    let parted = t.parted in
    let more = a.parted in
    record {
      held = record {
        depth = omega arith;
        compounds = omega arith;
        loops = omega arith;
        head = t.head ∙ a.head;
        in_statements = t.in_statements ∙ a.inside;
        skips = t.skips ∙ a.skips;
        parted = omega arith;
        operators = t.operators;
        ground = λ h.
            let level : b.deep ≡ s.deep = eqb-true b.deep s.deep (holds b.ground (nat_eq b.deep s.deep) u.1 h) in
            let none : d ≡ 0 = t.ground (a.ground h) in
            omega arith;
      };
      last = λ h. accepts_known b.last s.last n.last (a.last h) (k.last (a.skips ∙ h));
    }

leaves : (b e s : Place) (c l d : ℕ) (n m : Nesting) → fits b s ≡ true → Keeps c l d s n
    → Keeps ((c + s.opened) - b.opened) ((l + s.loops) - b.loops) ((d + s.deep) - b.deep) e m → Keeps c l d (behind_part b e s) m
leaves b e s c l d n m f k i =
    let p = and_parts (similar b s) (nat_le b.deep s.deep && (nat_le b.opened s.opened && (nat_le b.loops s.loops && only_if b.ground (nat_eq b.deep s.deep)))) f in
    let q = and_parts (nat_le b.deep s.deep) (nat_le b.opened s.opened && (nat_le b.loops s.loops && only_if b.ground (nat_eq b.deep s.deep))) p.1 in
    let r = and_parts (nat_le b.opened s.opened) (nat_le b.loops s.loops && only_if b.ground (nat_eq b.deep s.deep)) q.1 in
    let u = and_parts (nat_le b.loops s.loops) (only_if b.ground (nat_eq b.deep s.deep)) r.1 in
    let deep : b.deep ≤ s.deep = leb-true b.deep s.deep q.0 in
    let opened : b.opened ≤ s.opened = leb-true b.opened s.opened r.0 in
    let loops : b.loops ≤ s.loops = leb-true b.loops s.loops u.0 in
    let t = i.held in
    let depth = t.depth in
    let compounds = t.compounds in
    let open_loops = t.loops in
    record {
      held = record {
        depth = omega arith;
        compounds = omega arith;
        loops = omega arith;
        head = t.head;
        in_statements = t.in_statements;
        skips = t.skips;
        parted = t.parted;
        operators = t.operators;
        ground = k.held.ground;
      };
      last = i.last;
    }

-- an expression that stands where nothing is skipped
passes : (q : Part) (s : Place) (c l d : ℕ) (n m : Nesting) {a : Phrase} {u : List Lexeme} → s.skips ≡ false → is_part q ≡ true → box_fine q s ≡ true → Keeps c l d s n → Spells q a u → walk n u ≡ Some m
    → Keeps c l d (record s { last = Some lasts.Other }) m
passes q s c l d n m h part f k g e =
    let p = and_parts (serves (needed q) s.last) (not (behind_in q) && (nat_eq (floor q) 0 && (not (closes q) && (not (is_parameter s.head) && nat_le s.parted (s.deep + 1))))) f in
    let o = and_parts (not (behind_in q)) (nat_eq (floor q) 0 && (not (closes q) && (not (is_parameter s.head) && nat_le s.parted (s.deep + 1)))) p.1 in
    let r = and_parts (nat_eq (floor q) 0) (not (closes q) && (not (is_parameter s.head) && nat_le s.parted (s.deep + 1))) o.1 in
    let v = and_parts (not (closes q)) (not (is_parameter s.head) && nat_le s.parted (s.deep + 1)) r.1 in
    let w = and_parts (not (is_parameter s.head)) (nat_le s.parted (s.deep + 1)) v.1 in
    let flat : floor q ≡ 0 = eqb-true (floor q) 0 r.0 in
    let level : roof q ≡ floor q = if_false (closes q) 0 (floor q) (not_true (closes q) v.0) in
    let low : s.parted ≤ s.deep + 1 = leb-true s.parted (s.deep + 1) w.1 in
    let t = k.held in
    let depth = t.depth in
    let parted = t.parted in
    let head : is_parameter n.head ≡ false = ap is_parameter t.head ∙ not_true (is_parameter s.head) w.0 in
    let begin : Tracks n n.depth (begins_expression q) n = record {
      depth = omega arith;
      operators = omega arith;
      most = t.operators;
      compounds = refl;
      loops = refl;
      in_statements = refl;
      head = refl;
      skips = t.skips ∙ h;
      last = serves_goes (needed q) s.last n.last p.0 (k.last h);
      parted = omega arith;
      fewer = omega arith;
      member = λ i. true_false (behind_in q) i (not_true (behind_in q) o.0);
    } in
    let x = sound q g n n.depth (begins_expression q) n m head (owed_expression q part) begin e in
    let i = x.2 in
    let deeper = i.depth in
    let fewer = i.fewer in
    record {
      held = record {
        depth = omega arith;
        compounds = i.compounds ∙ t.compounds;
        loops = i.loops ∙ t.loops;
        head = i.head ∙ t.head;
        in_statements = i.in_statements ∙ t.in_statements;
        skips = i.skips ∙ sym h;
        parted = omega arith;
        operators = i.most;
        ground = t.ground;
      };
      last = λ j. i.last;
    }

-- a token
on_sort : (τ : Sort) (c l d : ℕ) (s x : Place) (n m : Nesting) → Keeps c l d s n → sort_on τ s ≡ Some x → step n τ ≡ Some m → Keeps c l d x m
unfolding step
on_sort τ c l d s x n m k f g = weighed_at (weight_of τ) (last_of τ) c l d s x n m k f g

-- weights that count no more than others where tokens are skipped
abbrev calm : Weight → Bool
calm weights.Opens = false
calm weights.Closes = false
calm weights.Ends = false
calm v = true

abbrev enclosed : Weight → Bool
enclosed weights.Opens = false
enclosed weights.Closes = false
enclosed v = true

calm_skipped : (v : Weight) (s : Place) → calm v ≡ true → skipped_by v s ≡ Some s
calm_skipped weights.Opens s e = cc
calm_skipped weights.Closes s e = cc
calm_skipped weights.Ends s e = cc
calm_skipped v s e = refl

enclosed_skipped : (v : Weight) (s : Place) → enclosed v ≡ true → more_than_none s.deep ≡ true → skipped_by v s ≡ Some s
enclosed_skipped weights.Opens s e h = cc
enclosed_skipped weights.Closes s e h = cc
enclosed_skipped weights.Ends s e h = if_true (more_than_none s.deep) (Some s) (if s.ground then Some (record s { parted = 1; skips = false }) else None) h
enclosed_skipped v s e h = refl

-- a token that changes nothing where tokens are skipped
forgets : (τ : Sort) (c l d : ℕ) (s : Place) (n m : Nesting) → s.skips ≡ true → skipped_by (weight_of τ) s ≡ Some s → Keeps c l d s n → step n τ ≡ Some m → Keeps c l d (record s { last = None }) m
forgets τ c l d s n m h e k g =
    let skips : weighed_by (weight_of τ) s ≡ Some s = if_true s.skips (skipped_by (weight_of τ) s) (then_plain (weight_of τ) (ended_by (weight_of τ) s)) h ∙ e in
    let t = (on_sort τ c l d s (record s { last = Some (last_of τ) }) n m k (ap (λ (o : Option Place). last_put (last_of τ) o) skips) g).held in
    record { held = record { depth = t.depth; compounds = t.compounds; loops = t.loops; head = t.head; in_statements = t.in_statements; skips = t.skips; parted = t.parted; operators = t.operators; ground = t.ground }; last = λ i. true_false s.skips h i }

skips_class : (q : Class) (t : Lexeme) (c l d : ℕ) (s x : Place) (n m : Nesting) → all_sorts (λ τ. only_if (is_in q τ) (calm (weight_of τ))) ≡ true → is_in q (sort t) ≡ true → only_skipped s ≡ Some x → Keeps c l d s n → step n (sort t) ≡ Some m → Keeps c l d x m
skips_class q t c l d s x n m all i f k g =
    let p = went s.skips (Some (record s { last = None })) x f in
    let quiet = holds (is_in q (sort t)) (calm (weight_of (sort t))) (by_sort (λ τ. only_if (is_in q τ) (calm (weight_of τ))) all (sort t)) i in
    subst (λ (y : Place). Keeps c l d y m) (some_same (record s { last = None }) x p.1)
    (forgets (sort t) c l d s n m p.0 (calm_skipped (weight_of (sort t)) s quiet) k g)

-- the first token of a statement or a declaration
begun_word : (w : Reserved) → opens_statement w ≡ true → sort_on (ReservedSort w) stating ≡ Some (begun (statement_form (kinds.Reserved w)))
begun_word words.Null e = refl
begun_word words.Pragma e = refl
begun_word words.If e = refl
begun_word words.Case e = refl
begun_word words.Exit e = refl
begun_word words.Return e = refl
begun_word words.Delay e = refl
begun_word words.While e = refl
begun_word words.For e = refl
begun_word words.Loop e = refl
begun_word words.Declare e = refl
begun_word words.Begin e = refl
begun_word w e = cc

begun_kind : (k : TokenKind) (text : List ℕ) → is_in classes.Statement (sort_of k text) ≡ true → sort_on (sort_of k text) stating ≡ Some (begun (statement_form k))
begun_kind kinds.Word text e = refl
begun_kind (kinds.Reserved w) text e = begun_word w e
begun_kind k text e = cc

compound_word : (w : Reserved) → opens_compound w ≡ true → sort_on (ReservedSort w) stating ≡ Some (begun_compound (compound_form (kinds.Reserved w)))
compound_word words.While e = refl
compound_word words.For e = refl
compound_word words.Loop e = refl
compound_word words.Declare e = refl
compound_word words.Begin e = refl
compound_word w e = cc

compound_kind : (k : TokenKind) (text : List ℕ) → is_in classes.Compound (sort_of k text) ≡ true → sort_on (sort_of k text) stating ≡ Some (begun_compound (compound_form k))
compound_kind (kinds.Reserved w) text e = compound_word w e
compound_kind k text e = cc

local_word : (w : Reserved) → opens_local w ≡ true → sort_on (ReservedSort w) declaring ≡ Some (begun_local (local_form (kinds.Reserved w)))
local_word words.Type e = refl
local_word words.Subtype e = refl
local_word words.Use e = refl
local_word words.Pragma e = refl
local_word w e = cc

local_kind : (k : TokenKind) (text : List ℕ) → is_in classes.LocalDeclaration (sort_of k text) ≡ true → sort_on (sort_of k text) declaring ≡ Some (begun_local (local_form k))
local_kind kinds.Word text e = refl
local_kind (kinds.Reserved w) text e = local_word w e
local_kind k text e = cc

-- a token of a form
formed : (b : Place) (t : Lexeme) (c l d : ℕ) (s y x : Place) (n m : Nesting) → sort_on (sort t) b ≡ Some y → (if exact b s then Some y else None) ≡ Some x → Keeps c l d s n → step n (sort t) ≡ Some m → Keeps c l d x m
formed b t c l d s y x n m e f k g =
    let p = went (exact b s) (Some y) x f in
    on_sort (sort t) c l d b x n m (exactly b s c l d n p.0 k) (e ∙ p.1) g

any_word : (τ : Sort) (s x : Place) → is_word τ ≡ true → sort_on (WordSort roles.Ordinary) s ≡ Some x → sort_on τ s ≡ Some x
any_word (WordSort r) s x i h = h
any_word τ s x i h = cc

any_number : (τ : Sort) (s x : Place) → is_in classes.Number τ ≡ true → sort_on NumberSort s ≡ Some x → sort_on τ s ≡ Some x
any_number NumberSort s x i h = h
any_number τ s x i h = cc

this_word : (w : Reserved) (τ : Sort) (s x : Place) → is_in (classes.Reserved w) τ ≡ true → sort_on (ReservedSort w) s ≡ Some x → sort_on τ s ≡ Some x
this_word w (ReservedSort b) s x i h = subst (λ (v : Reserved). sort_on (ReservedSort v) s ≡ Some x) (one_word w b i) h
this_word w τ s x i h = cc

this_mark : (m : Mark) (τ : Sort) (s x : Place) → is_in (classes.Mark m) τ ≡ true → sort_on (MarkSort m) s ≡ Some x → sort_on τ s ≡ Some x
this_mark m (MarkSort b) s x i h = subst (λ (v : Mark). sort_on (MarkSort v) s ≡ Some x) (one_mark m b i) h
this_mark m τ s x i h = cc

on_class : (q : Class) (t : Lexeme) (c l d : ℕ) (s x : Place) (n m : Nesting) → is_in q (sort t) ≡ true → taken q t s ≡ Some x → Keeps c l d s n → step n (sort t) ≡ Some m → Keeps c l d x m
on_class classes.Word t c l d s x n m i f k g = on_sort (sort t) c l d s x n m k (any_word (sort t) s x i f) g
on_class classes.Number t c l d s x n m i f k g = on_sort (sort t) c l d s x n m k (any_number (sort t) s x i f) g
on_class (classes.Reserved w) t c l d s x n m i f k g = on_sort (sort t) c l d s x n m k (this_word w (sort t) s x i f) g
on_class (classes.Mark a) t c l d s x n m i f k g = on_sort (sort t) c l d s x n m k (this_mark a (sort t) s x i f) g
on_class classes.Statement t c l d s x n m i f k g = formed stating t c l d s (begun (statement_form t.token.kind)) x n m (begun_kind t.token.kind t.text i) f k g
on_class classes.Compound t c l d s x n m i f k g = formed stating t c l d s (begun_compound (compound_form t.token.kind)) x n m (compound_kind t.token.kind t.text i) f k g
on_class classes.LocalDeclaration t c l d s x n m i f k g = formed declaring t c l d s (begun_local (local_form t.token.kind)) x n m (local_kind t.token.kind t.text i) f k g
on_class classes.Relational t c l d s x n m i f k g = skips_class classes.Relational t c l d s x n m refl i f k g
on_class classes.Adding t c l d s x n m i f k g = skips_class classes.Adding t c l d s x n m refl i f k g
on_class classes.Multiplying t c l d s x n m i f k g = skips_class classes.Multiplying t c l d s x n m refl i f k g
on_class classes.AttributeName t c l d s x n m i f k g = skips_class classes.AttributeName t c l d s x n m refl i f k g
on_class classes.Mode t c l d s x n m i f k g = skips_class classes.Mode t c l d s x n m refl i f k g
on_class classes.True t c l d s x n m i f k g = skips_class classes.True t c l d s x n m refl i f k g
on_class classes.Skipped t c l d s x n m i f k g = skips_class classes.Skipped t c l d s x n m refl i f k g
on_class q t c l d s x n m i f k g = none_some x f

-- tokens with balanced parentheses, up to the one that closes the outermost
abbrev Shut : Part → Phrase → List Lexeme → Type 0
Shut (Balanced i) y w = (c l d : ℕ) (s : Place) (n m : Nesting) → s.skips ≡ true → Keeps c l d s n → i < s.deep → walk n w ≡ Some m → Keeps c l d (record s { deep = s.deep - (i + 1); last = None }) m
Shut p y w = Unit {0}

deep_some : (n i : ℕ) → i < n → more_than_none n ≡ true
deep_some zero i e = absurd (omega arith)
deep_some (suc n) i e = refl

shut_more : (i : ℕ) (t : Lexeme) (y : Phrase) (v : List Lexeme) → is_in classes.Enclosed (sort t) ≡ true → Shut (Balanced i) y v → Shut (Balanced i) y (t ∷ v)
shut_more i t y v is f c l d s n m h k e g =
    let b = between (step n (sort t)) v m g in
    let quiet = holds (is_in classes.Enclosed (sort t)) (enclosed (weight_of (sort t))) (by_sort (λ τ. only_if (is_in classes.Enclosed τ) (enclosed (weight_of τ))) refl (sort t)) is in
    f c l d (record s { last = None }) b.0 m h (forgets (sort t) c l d s n b.0 h (enclosed_skipped (weight_of (sort t)) s quiet (deep_some s.deep i e)) k b.1) e b.2

shut_deeper : (i : ℕ) (t : Lexeme) (y : Phrase) (v : List Lexeme) → is_in (classes.Mark marks.Open) (sort t) ≡ true → Shut (Balanced (i + 1)) y v → Shut (Balanced i) y (t ∷ v)
shut_deeper i t y v is f c l d s n m h k e g =
    let b = between (step n (sort t)) v m g in
    let opened : sort_on (MarkSort marks.Open) s ≡ Some (record s { deep = s.deep + 1; last = Some lasts.Other }) =
    ap (λ (o : Option Place). last_put lasts.Other o) (if_true s.skips (skipped_by weights.Opens s) (then_plain weights.Opens (ended_by weights.Opens s)) h) in
    let next = on_sort (sort t) c l d s (record s { deep = s.deep + 1; last = Some lasts.Other }) n b.0 k (this_mark marks.Open (sort t) s (record s { deep = s.deep + 1; last = Some lasts.Other }) is opened) b.1 in
    let deeper : i + 1 < s.deep + 1 = omega arith in
    let back : (s.deep + 1) - ((i + 1) + 1) ≡ s.deep - (i + 1) = omega arith in
    subst (λ (z : ℕ). Keeps c l d (record s { deep = z; last = None }) m) back (f c l d (record s { deep = s.deep + 1; last = Some lasts.Other }) b.0 m h next deeper b.2)

closed_place : (t : Lexeme) (c l d : ℕ) (s : Place) (n k : Nesting) → is_in (classes.Mark marks.Close) (sort t) ≡ true → s.skips ≡ true → more_than_none s.deep ≡ true → Keeps c l d s n → step n (sort t) ≡ Some k → Keeps c l d (record s { deep = s.deep - 1; last = Some lasts.Other }) k
closed_place t c l d s n k is h e t_keeps g =
    let closed : sort_on (MarkSort marks.Close) s ≡ Some (record s { deep = s.deep - 1; last = Some lasts.Other }) =
    ap (λ (o : Option Place). last_put lasts.Other o) (if_true s.skips (skipped_by weights.Closes s) (then_plain weights.Closes (ended_by weights.Closes s)) h
    ∙ if_true (more_than_none s.deep) (Some (record s { deep = s.deep - 1 })) None e) in
    on_sort (sort t) c l d s (record s { deep = s.deep - 1; last = Some lasts.Other }) n k t_keeps (this_mark marks.Close (sort t) s (record s { deep = s.deep - 1; last = Some lasts.Other }) is closed) g

-- a place where tokens are skipped, of which the last token is forgotten
forgotten : (c l d : ℕ) (s : Place) (n : Nesting) → s.skips ≡ true → Keeps c l d s n → Keeps c l d (record s { last = None }) n
forgotten c l d s n h k = let t = k.held in record { held = record { depth = t.depth; compounds = t.compounds; loops = t.loops; head = t.head; in_statements = t.in_statements; skips = t.skips; parted = t.parted; operators = t.operators; ground = t.ground }; last = λ i. true_false s.skips h i }

shut_last : (i : ℕ) (t : Lexeme) (y : Phrase) → is_in (classes.Mark marks.Close) (sort t) ≡ true → is_none i ≡ true → Shut (Balanced i) y (t ∷ [])
shut_last zero t y is z c l d s n m h k e g =
    let b = between (step n (sort t)) [] m g in
    let here = closed_place t c l d s n b.0 is h (deep_some s.deep 0 e) k b.1 in
    subst (λ (j : Nesting). Keeps c l d (record s { deep = s.deep - (0 + 1); last = None }) j) (some_same b.0 m b.2) (forgotten c l d (record s { deep = s.deep - 1; last = Some lasts.Other }) b.0 h here)
shut_last (suc i) t y is z c l d s n m h k e g = cc

shut_higher : (i : ℕ) (t : Lexeme) (y : Phrase) (v : List Lexeme) → is_in (classes.Mark marks.Close) (sort t) ≡ true → is_none i ≡ false → Shut (Balanced (one_less i)) y v → Shut (Balanced i) y (t ∷ v)
shut_higher zero t y v is z f c l d s n m h k e g = cc
shut_higher (suc i) t y v is z f c l d s n m h k e g =
    let b = between (step n (sort t)) v m g in
    let here = closed_place t c l d s n b.0 is h (deep_some s.deep (suc i) e) k b.1 in
    let less : i < s.deep - 1 = omega arith in
    let back : (s.deep - 1) - (i + 1) ≡ s.deep - (suc i + 1) = omega arith in
    subst (λ (j : ℕ). Keeps c l d (record s { deep = j; last = None }) m) back (f c l d (record s { deep = s.deep - 1; last = Some lasts.Other }) b.0 m h here less b.2)

shut : (p : Part) → Holds Shut (rule p) (Shut p)
shut (Balanced i) = (
  λ t is y v g f. shut_more i t y v is f,
  (λ t is y v g f. shut_deeper i t y v is f, λ t is. (λ e. shut_last i t phrases.blank is e, λ e y v g f. shut_higher i t y v is e f)),
)
shut p = nothing Shut (rule p)

balanced_is : (q : Part) → is_balanced q ≡ true → q ≡ Balanced 0
balanced_is (Balanced zero) e = refl
balanced_is (Balanced (suc n)) e = cc
balanced_is q e = cc

-- balanced parentheses in what is skipped
shuts : (q : Part) (s : Place) (c l d : ℕ) (n m : Nesting) {a : Phrase} {u : List Lexeme} → s.skips ≡ true → is_balanced q ≡ true → more_than_none s.deep ≡ true → Keeps c l d s n → Spells q a u → walk n u ≡ Some m
    → Keeps c l d (record s { deep = s.deep - 1; last = None }) m
shuts q s c l d n m {a} {u} h b e k g w =
    let known : Spells (Balanced 0) a u = subst (λ (p : Part). Spells p a u) (balanced_is q b) g in
    let some = some_deep s.deep e in
    each Shut shut known (Shut (Balanced 0)) (shut (Balanced 0)) c l d s n m h k some w
  where
    some_deep : (n : ℕ) → more_than_none n ≡ true → 0 < n
    some_deep zero e = cc
    some_deep (suc n) e = omega arith

-- a part in the part that it stands in
abbrev Inner : Part → Place → Nesting → Nesting → Type 0
Inner q s n m = (c l d : ℕ) → stands q (context_of s) ≡ true → Keeps c l d (begins q (context_of s)) n → Keeps c l d (ends q (context_of s)) m

through : (q : Part) (s : Place) (c l d : ℕ) (n m : Nesting) {a : Phrase} {u : List Lexeme} → fine q s ≡ true → Keeps c l d s n → Spells q a u → walk n u ≡ Some m → Inner q s n m → Keeps c l d (behind q s) m
through q s c l d n m {a} {u} f k g e inner = by (s.skips && is_balanced q) (boxed q s) refl refl f
  where
    by : (x y : Bool) → x ≡ (s.skips && is_balanced q) → y ≡ boxed q s
        → (if x then more_than_none s.deep else (if y then box_fine q s else (stands q (context_of s) && fits (begins q (context_of s)) s))) ≡ true
        → Keeps c l d (if x then record s { deep = s.deep - 1; last = None } else (if y then record s { last = Some lasts.Other } else behind_part (begins q (context_of s)) (ends q (context_of s)) s)) m
    by true y ex ey f = let p = and_parts s.skips (is_balanced q) (sym ex) in shuts q s c l d n m p.0 p.1 f k g e
    by false true ex ey f =
        let p = and_parts (not s.skips) (is_part q && not (is_choice q)) (sym ey) in
        let r = and_parts (is_part q) (not (is_choice q)) p.1 in
        passes q s c l d n m (not_true s.skips p.0) r.0 f k g e
    by false false ex ey f =
        let p = and_parts (stands q (context_of s)) (fits (begins q (context_of s)) s) f in
        let b = begins q (context_of s) in
        leaves b (ends q (context_of s)) s c l d n m p.1 k
        (inner ((c + s.opened) - b.opened) ((l + s.loops) - b.loops) ((d + s.deep) - b.deep) p.0 (enters b s c l d n p.1 k))

going : (o : Option Place) (f : Place → Type 0) → Going o f → (x : Place) × (o ≡ Some x) × f x
going None f h = absurd h
going (Some x) f h = (x, refl, h)

sounds : (p : Part) (x : Context) {b : Body} {y : Phrase} {w : List Lexeme} → Fits b y w → (c l d : ℕ) (s : Place) (n m : Nesting) → Owes p x b s → Keeps c l d s n → walk n w ≡ Some m → Keeps c l d (ends p x) m
sounds p x gives c l d s n m o k e = subst (λ (i : Nesting). Keeps c l d (ends p x) i) (some_same n m e) (exactly (ends p x) s c l d n o k)
sounds p x (take {c = q} {rest = f} {t} {w} is g) c l d s n m o k e =
    let i = going (taken q t s) (λ (j : Place). Owes p x (f t) j) (o t) in
    let b = between (step n (sort t)) w m e in
    sounds p x g c l d i.0 b.0 m i.2 (on_class q t c l d s i.0 n b.0 is i.1 k b.1) b.2
sounds p x (call {p = q} {rest = f} {a} {u} {v} g i) c l d s n m o k e =
    let b = between (walk n u) v m (sym (walk_parts (Some n) u v) ∙ e) in
    sounds p x i c l d (behind q s) b.0 m (o.1 a)
    (through q s c l d n b.0 o.0 k g b.1 (λ c' l' d' st kp. sounds q (context_of s) g c' l' d' (begins q (context_of s)) n b.0 (owed q (context_of s) st) kp b.1)) b.2
sounds p x (rest {p = q} g) c l d s n m o k e =
    exactly (ends p x) (behind q s) c l d m o.1
    (through q s c l d n m o.0 k g e (λ c' l' d' st kp. sounds q (context_of s) g c' l' d' (begins q (context_of s)) n m (owed q (context_of s) st) kp e))
sounds p x (left g) c l d s n m o k e = sounds p x g c l d s n m o.0 k e
sounds p x (right g) c l d s n m o k e = sounds p x g c l d s n m o.1 k e
sounds p x (yes g) c l d s n m o k e = sounds p x g c l d s n m o.0 k e
sounds p x (no g) c l d s n m o k e = sounds p x g c l d s n m o.1 k e

pub statements_closed : (y : Phrase) (w : List Lexeme) (d : Children) (n m : Nesting) → Spells (Statements d) y w → InStatements n → walk n w ≡ Some m → IsClosed n m
statements_closed y w d n m g b e =
    let depth = b.depth in
    let start : Keeps n.compounds n.loops 0 stating n = record {
      held = record {
        depth = omega arith;
        compounds = omega arith;
        loops = omega arith;
        head = b.head;
        in_statements = b.in_statements;
        skips = b.skips;
        parted = b.parted;
        operators = b.operators;
        ground = λ h. refl;
      };
      last = λ h. b.last;
    } in
    let k = sounds (Statements d) Inside g n.compounds n.loops 0 stating n m (owed (Statements d) Inside refl) start e in
    let t = k.held in
    let ends_at = t.depth in
    let compounds = t.compounds in
    let loops = t.loops in
    record {
      compounds = omega arith;
      loops = omega arith;
      again = record {
        depth = omega arith;
        in_statements = t.in_statements;
        head = t.head;
        skips = t.skips;
        last = ap is_end (k.last refl);
        parted = t.parted;
        operators = t.operators;
      };
    }
