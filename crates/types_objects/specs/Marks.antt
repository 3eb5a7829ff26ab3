-- The types that marks name.
use Rattle.std.specs.Prelude.{Option, Some, None, if◌then◌else◌, nat_lt, length}
use Rattle.spark_base.specs.declared.name.Name.{Name}
use Rattle.spark_base.specs.declared.numbers.DeclNo.{DeclNo}
use Rattle.spark_base.specs.declared.numbers.TypeNo.{TypeNo}
use Rattle.ada_forms.specs.Forms.{Expr, Identifier, Selected}
use Rattle.static_eval.specs.declared.known.Known.{Known}
use Rattle.static_meanings.specs.Meanings.{type_at}
use Rattle.static_meanings.specs.Pairs.{told}
use Rattle.types_objects.specs.declared.predefined.Predefined.{Predefined}
use Rattle.types_objects.specs.declared.predefined.Predefined.TheVariants as names
use Rattle.types_objects.specs.declared.types.Types.{Types}
use Rattle.types_objects.specs.Predefined.{predefined_name}

-- the type that a predefined name is
abbrev pub type_predefined : Option Predefined → Option TypeNo
type_predefined (Some (names.Type t)) = Some t
type_predefined _ = None

abbrev pub type_denoted : Types → Name → Option DeclNo → Option TypeNo
type_denoted types name None = type_predefined (predefined_name name.written)
type_denoted types name (Some d) = told types.numbers d.0

abbrev pub type_named : Types → Known → Expr → Option TypeNo
type_named types k (Identifier e at name) = type_denoted types name (told k.names e.0)
type_named types k (Selected e at name prefix) = type_denoted types name (told k.names e.0)
type_named types k _ = None

-- what is no type of the table counts as Integer
abbrev pub there : Types → Option TypeNo → TypeNo
there types None = type_at 1
there types (Some t) = if nat_lt t.0 (length types.list) then t else type_at 1

-- the type that a mark names
abbrev pub type_of_mark : Types → Known → Expr → TypeNo
type_of_mark types k mark = there types (type_named types k mark)
