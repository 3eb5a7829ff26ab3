-- What the type of a declaration is made of and has no type yet.
use Rattle.std.specs.Prelude.{List, [], ◌∷◌, Option, Some, None}
use Rattle.spark_base.specs.declared.numbers.DeclNo.{DeclNo}
use Rattle.spark_base.specs.declared.numbers.TypeNo.{TypeNo}
use Rattle.ada_tree.specs.declared.units.Units.{Units}
use Rattle.ada_forms.specs.Declarations.{Decl, decl_of}
use Rattle.ada_forms.specs.Declarations as decls
use Rattle.ada_forms.specs.Forms.{Expr, Identifier, Selected, Indication, Constrained, RangeAttribute, SubtypeRange, AttributeRange}
use Rattle.static_eval.specs.declared.known.Known.{Known}
use Rattle.static_meanings.specs.Pairs.{told}
use Rattle.types_objects.specs.declared.types.Types.{Types}

abbrev pub without : DeclNo → Option TypeNo → Option DeclNo
without d None = Some d
without d (Some t) = None

-- a declaration that has no type yet
abbrev pub missing : Types → Option DeclNo → Option DeclNo
missing types None = None
missing types (Some d) = without d (told types.numbers d.0)

abbrev pub mark_awaits : Types → Known → Expr → Option DeclNo
mark_awaits types k (Identifier e at name) = missing types (told k.names e.0)
mark_awaits types k (Selected e at name prefix) = missing types (told k.names e.0)
mark_awaits types k _ = None

abbrev pub subtype_awaits : Types → Known → Expr → Option DeclNo
subtype_awaits types k (Indication e at mark) = mark_awaits types k mark
subtype_awaits types k (Constrained e at mark low high) = mark_awaits types k mark
subtype_awaits types k _ = None

-- what the index of an array that is named waits for: of a type its number, of an object or a component its type
abbrev pub array_awaits : Types → Known → DeclNo → Decl → Option DeclNo
array_awaits types k d (decls.ArrayType a at name index element) = missing types (Some d)
array_awaits types k d (decls.Subtype s at name subtype) = missing types (Some d)
array_awaits types k d (decls.Object o at name is_constant subtype value) = subtype_awaits types k subtype
array_awaits types k d (decls.Component c at name subtype preset) = subtype_awaits types k subtype
array_awaits types k d _ = None

abbrev pub denoted_awaits : Types → Units → Known → Option DeclNo → Option DeclNo
denoted_awaits types u k None = None
denoted_awaits types u k (Some d) = array_awaits types k d (decl_of u d)

abbrev pub prefix_awaits : Types → Units → Known → Expr → Option DeclNo
prefix_awaits types u k (Identifier e at name) = denoted_awaits types u k (told k.names e.0)
prefix_awaits types u k (Selected e at name prefix) = denoted_awaits types u k (told k.names e.0)
prefix_awaits types u k _ = None

abbrev pub attribute_awaits : Types → Units → Known → Expr → Option DeclNo
attribute_awaits types u k (RangeAttribute e at prefix arguments) = prefix_awaits types u k prefix
attribute_awaits types u k _ = None

abbrev pub index_awaits : Types → Units → Known → Expr → Option DeclNo
index_awaits types u k (SubtypeRange e at subtype) = subtype_awaits types k subtype
index_awaits types u k (AttributeRange e at attribute) = attribute_awaits types u k attribute
index_awaits types u k _ = None

abbrev pub or_next : Option DeclNo → Option DeclNo → Option DeclNo
or_next None next = next
or_next (Some d) next = Some d

abbrev pub component_awaits : Types → Known → Decl → Option DeclNo
component_awaits types k (decls.Component d at name subtype preset) = subtype_awaits types k subtype
component_awaits types k _ = None

abbrev pub components_await : Types → Units → Known → List DeclNo → Option DeclNo
components_await types u k [] = None
components_await types u k (d ∷ ds) = or_next (component_awaits types k (decl_of u d)) (components_await types u k ds)

-- the first declaration of those that a declaration is made of that has no type yet
abbrev pub awaited_by : Types → Units → Known → Decl → Option DeclNo
awaited_by types u k (decls.ArrayType d at name index element) = or_next (index_awaits types u k index) (mark_awaits types k element)
awaited_by types u k (decls.RecordType d at name components) = components_await types u k components
awaited_by types u k (decls.Subtype d at name subtype) = subtype_awaits types k subtype
awaited_by types u k (decls.Object d at name is_constant subtype value) = subtype_awaits types k subtype
awaited_by types u k (decls.Component d at name subtype preset) = subtype_awaits types k subtype
awaited_by types u k _ = None
