-- What is told of a node: its declaration, and its type.
use Rattle.std.specs.Prelude.{List, [], ◌∷◌, Option, Some, None}
use Rattle.spark_base.specs.declared.numbers.ExprNo.{ExprNo}
use Rattle.name_findings.specs.Findings.{Finding, HasType, denotes_decl}
use Rattle.seen_types.specs.declared.seen.ExprType.{ExprType}
use Rattle.seen_types.specs.declared.seen.ExprType.TheVariants as types
use Rattle.seen_names.specs.declared.shown.Shown.{Shown}

-- what is predefined has no declaration
abbrev pub denotes : ExprNo → Option Shown → List Finding
denotes e None = []
denotes e (Some s) = denotes_decl e s.decl

abbrev pub has_type : ExprNo → Option ExprType → List Finding
has_type e None = []
has_type e (Some types.AnyInteger) = []
has_type e (Some (types.Of t)) = HasType e t ∷ []
