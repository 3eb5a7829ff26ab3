-- Marks, and names in use clauses: words and points alone.
use Rattle.std.specs.Prelude.{if◌then◌else◌, false, Bool, List, [], ◌++◌, Option, Some, None}
use Rattle.spark_base.specs.declared.name.Name.{Name}
use Rattle.spark_base.specs.declared.numbers.ExprNo.{ExprNo}
use Rattle.spark_base.specs.declared.numbers.Pos.{Pos}
use Rattle.spark_messages.specs.declared.messages.Code.TheVariants as codes
use Rattle.ada_forms.specs.Forms.{Expr, Identifier, Selected}
use Rattle.name_findings.specs.declared.findings.Mention.{Mention}
use Rattle.name_findings.specs.Findings.{Finding, refuse_mention, refuse_word}
use Rattle.seen_types.specs.declared.seen.ExprType.{ExprType}
use Rattle.seen_types.specs.Types.{is_limited, shape_of}
use Rattle.seen_names.specs.declared.entities.Entity.{Entity}
use Rattle.seen_names.specs.declared.entities.Entity.TheVariants.{Nothing, Package}
use Rattle.seen_names.specs.Contexts.{Context, sight_at, visible, member}
use Rattle.seen_names.specs.Entities.{of_shown}
use Rattle.value_rules.specs.Names.{mark_type, mention, name_found}
use Rattle.value_rules.specs.Applications.{no_mark_found}

-- behind a point stands a member of a package
abbrev pub member_entity : Context → Mention → Name → Entity → Entity
member_entity c m name (Package p) = of_shown m (member c p name)
member_entity c m name _ = Nothing

abbrev pub member_found : Context → ExprNo → Pos → Name → Entity → List Finding
member_found c e at name Nothing = []
member_found c e at name (Package p) = name_found e at (member c p name)
member_found c e at name _ = refuse_word codes.N01 at e

-- what a name of words and points stands for
abbrev pub unit_entity : Context → Expr → Entity
unit_entity c (Identifier e at name) = of_shown (mention e at) (visible c.tables name)
unit_entity c (Selected e at name prefix) = member_entity c (mention e at) name (unit_entity c prefix)
unit_entity c _ = Nothing

abbrev pub unit_found : Context → Expr → List Finding
unit_found c (Identifier e at name) = name_found e at (visible c.tables name)
unit_found c (Selected e at name prefix) = unit_found c prefix ++ member_found c e at name (unit_entity c prefix)
unit_found c _ = []

-- the word that ends such a name
abbrev pub word_of : Expr → Option Mention
word_of (Identifier e at name) = Some (mention e at)
word_of (Selected e at name prefix) = Some (mention e at)
word_of _ = None

-- the type that a mark denotes
abbrev pub mark_of : Context → Expr → Option ExprType
mark_of c t = mark_type (unit_entity c t)

-- N01: a name in it is not visible, or it denotes no type
abbrev pub mark_found : Context → Expr → List Finding
mark_found c t = unit_found c t ++ no_mark_found (word_of t) (unit_entity c t)

abbrev pub no_package_found : Option Mention → Entity → List Finding
no_package_found m Nothing = []
no_package_found m (Package p) = []
no_package_found m _ = refuse_mention codes.N01 m

-- `use P;`; of `use type T;` T is a mark
abbrev pub use_found : Context → Expr → List Finding
use_found c t = unit_found c t ++ no_package_found (word_of t) (unit_entity c t)

abbrev pub is_limited_mark : Context → Option ExprType → Bool
is_limited_mark c None = false
is_limited_mark c (Some t) = is_limited (shape_of (sight_at c) t)

-- the mark of an element or of a result: N10 where it is of a protected type or a task type
abbrev pub part_mark_found : Context → Expr → List Finding
part_mark_found c t = mark_found c t ++ (if is_limited_mark c (mark_of c t) then refuse_mention codes.N10 (word_of t) else [])

-- What a node of a name adds to its prefix

abbrev pub entity_of : Context → Option Expr → Entity
entity_of c None = Nothing
entity_of c (Some t) = unit_entity c t

abbrev pub found_of : Context → Option Expr → List Finding
found_of c None = []
found_of c (Some t) = unit_found c t

abbrev pub own_found : Context → Expr → List Finding
own_found c (Identifier e at name) = name_found e at (visible c.tables name)
own_found c (Selected e at name prefix) = member_found c e at name (unit_entity c prefix)
own_found c _ = []
