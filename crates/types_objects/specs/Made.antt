-- What a declaration makes of types.
use Rattle.std.specs.Prelude.{ℕ, ◌+◌, List, [], ◌∷◌, Option, Some, None}
use Rattle.spark_base.specs.declared.name.Name.{Name}
use Rattle.spark_base.specs.declared.numbers.DeclNo.{DeclNo}
use Rattle.spark_base.specs.declared.numbers.ExprNo.{ExprNo}
use Rattle.spark_base.specs.declared.numbers.TypeNo.{TypeNo}
use Rattle.ada_tree.specs.declared.units.Units.{Units}
use Rattle.static_eval.specs.declared.judgements.Judgement.{Judgement}
use Rattle.static_eval.specs.declared.known.Known.{Known}
use Rattle.static_meanings.specs.declared.meanings.Range.{Range}
use Rattle.ada_forms.specs.Declarations.{Decl, decl_of}
use Rattle.ada_forms.specs.Declarations as decls
use Rattle.ada_forms.specs.Forms.{Expr, RangeAttribute, Indication, Constrained, SubtypeRange, BoundsRange, AttributeRange, number_of}
use Rattle.static_eval.specs.Judged.{judged}
use Rattle.static_eval.specs.Judgements.{either}
use Rattle.static_eval.specs.Known.{known_meaning, range_of_mark}
use Rattle.static_meanings.specs.Meanings.{integers, type_at}
use Rattle.static_meanings.specs.Pairs.{told}
use Rattle.types_objects.specs.declared.bounds.Formed.{Formed}
use Rattle.types_objects.specs.declared.bounds.Formed.TheVariants as formed
use Rattle.types_objects.specs.declared.made.Made.{Made}
use Rattle.types_objects.specs.declared.made.Made.TheVariants as made
use Rattle.types_objects.specs.declared.made.NewType.{NewType}
use Rattle.types_objects.specs.declared.types.FieldDef.{FieldDef}
use Rattle.types_objects.specs.declared.types.TypeForm.{TypeForm}
use Rattle.types_objects.specs.declared.types.TypeForm.TheVariants as forms
use Rattle.types_objects.specs.declared.types.Types.{Types}
use Rattle.types_objects.specs.Bounds.{of_bounds, of_modulus, of_subtype}
use Rattle.types_objects.specs.Counts.{capped, count, count_of_fields}
use Rattle.types_objects.specs.Firsts.{first_of}
use Rattle.types_objects.specs.Marks.{there, type_of_mark}

-- One type more

abbrev pub own : ℕ → Name → DeclNo → TypeForm → ℕ → NewType
own n name d form leaves = record { def = record { name = name; decl = Some d; form = form; leaves = leaves }; first = type_at n }

abbrev pub one_own : ℕ → Name → DeclNo → TypeForm → ℕ → Made
one_own n name d form leaves = made.One (own n name d form leaves)

abbrev pub numeric : ℕ → Name → DeclNo → Formed → Made
numeric n name d (formed.Bounds low high) = one_own n name d (forms.Signed low high) 1
numeric n name d (formed.Modulus m) = one_own n name d (forms.Modular m) 1
numeric n name d (formed.Refused code place) = made.Refused code place

abbrev pub derived : TypeNo → Name → DeclNo → TypeForm → Made
derived first name d form = made.One (record { def = record { name = name; decl = Some d; form = form; leaves = 1 }; first = first })

-- a subtype with bounds of its own, whatever its first type is
abbrev pub bounded : TypeNo → Name → DeclNo → Formed → Made
bounded first name d (formed.Bounds low high) = derived first name d (forms.Signed low high)
bounded first name d (formed.Modulus m) = derived first name d (forms.Modular m)
bounded first name d (formed.Refused code place) = made.Refused code place

abbrev pub said_of : Units → Known → Expr → Judgement
said_of u k t = judged (known_meaning u k) t

-- a subtype without a range is its mark
abbrev pub indicated : Types → Units → Known → Name → DeclNo → Expr → Made
indicated types u k name d (Indication e at mark) = made.Same (type_of_mark types k mark)
indicated types u k name d (Constrained e at mark low high) =
    bounded (first_of types (type_of_mark types k mark)) name d (of_subtype (range_of_mark k mark) (said_of u k low) (said_of u k high))
indicated types u k name d _ = made.Same (type_at 1)

-- Arrays

abbrev pub or_integers : Option Range → Range
or_integers None = integers
or_integers (Some range) = range

-- the bounds of the first type
abbrev pub widest : Range → Range
widest range = record range { subtype = range.first; low = range.least; high = range.greatest }

abbrev pub between : Name → DeclNo → Range → Judgement → Judgement → Made
between name d range low high = bounded range.first name d (of_subtype (Some (widest range)) low high)

abbrev pub index_between : Units → Known → Name → DeclNo → Expr → Expr → Made
index_between u k name d low high =
    between name d (or_integers (either (said_of u k low).of (said_of u k high).of)) (said_of u k low) (said_of u k high)

abbrev pub subtype_in : Types → Option Range → TypeNo
subtype_in types None = type_at 1
subtype_in types (Some range) = there types (Some range.subtype)

abbrev pub range_in : Units → Known → Expr → Option Range
range_in u k (RangeAttribute e at prefix arguments) = (said_of u k prefix).range
range_in u k _ = None

-- the index of an array, with an entry of its own where it has bounds
abbrev pub index_of : Types → Units → Known → Name → DeclNo → Expr → Made
index_of types u k name d (SubtypeRange e at subtype) = indicated types u k name d subtype
index_of types u k name d (BoundsRange e at low high) = index_between u k name d low high
index_of types u k name d (AttributeRange e at attribute) = made.Same (subtype_in types (range_in u k attribute))
index_of types u k name d _ = made.Same (type_at 1)

abbrev pub array_over : ℕ → Name → DeclNo → TypeNo → Made → Made
array_over n name d element (made.Same index) = one_own n name d (forms.Array index element) 1
array_over n name d element (made.One index) = made.Two index (own (n + 1) name d (forms.Array (type_at n) element) 1)
array_over n name d element (made.Two a b) = made.Two a b
array_over n name d element (made.Refused code place) = made.Refused code place

-- Enumerations and records

abbrev pub literal_of : Decl → Option Name
literal_of (decls.EnumerationLiteral d at name) = Some name
literal_of _ = None

abbrev pub with_one : {A : Type 0} → Option A → List A → List A
with_one None xs = xs
with_one (Some x) xs = x ∷ xs

abbrev pub literal_names : Units → List DeclNo → List Name
literal_names u [] = []
literal_names u (d ∷ ds) = with_one (literal_of (decl_of u d)) (literal_names u ds)

abbrev pub number_in : Option Expr → Option ExprNo
number_in None = None
number_in (Some t) = Some (number_of t)

-- the type of a component: the entry of its own, if it has a range, else that of its mark
abbrev pub component_type : Types → Known → Option TypeNo → Expr → TypeNo
component_type types k (Some t) subtype = there types (Some t)
component_type types k None (Indication e at mark) = type_of_mark types k mark
component_type types k None (Constrained e at mark low high) = type_of_mark types k mark
component_type types k None _ = type_at 1

abbrev pub component_of : Types → Known → DeclNo → Decl → Option FieldDef
component_of types k d (decls.Component c at name subtype preset) =
    Some (record { name = name; of = component_type types k (told types.numbers d.0) subtype; preset = number_in preset })
component_of types k d _ = None

abbrev pub fields_of : Types → Units → Known → List DeclNo → List FieldDef
fields_of types u k [] = []
fields_of types u k (d ∷ ds) = with_one (component_of types k d (decl_of u d)) (fields_of types u k ds)

abbrev pub record_of : Types → ℕ → Name → DeclNo → List FieldDef → Made
record_of types n name d fields = one_own n name d (forms.Fields fields) (capped (count_of_fields (count types.list) fields))

-- what a declaration makes where so many types are there
abbrev pub made_by : Types → Units → Known → ℕ → Decl → Made
made_by types u k n (decls.EnumerationType d at name literals) = one_own n name d (forms.Enumeration (literal_names u literals)) 1
made_by types u k n (decls.RangeType d at name low high) = numeric n name d (of_bounds (said_of u k low) (said_of u k high))
made_by types u k n (decls.ModularType d at name modulus) = numeric n name d (of_modulus (said_of u k modulus))
made_by types u k n (decls.ArrayType d at name index element) =
    array_over n name d (type_of_mark types k element) (index_of types u k name d index)
made_by types u k n (decls.NullRecordType d at name) = record_of types n name d []
made_by types u k n (decls.RecordType d at name components) = record_of types n name d (fields_of types u k components)
made_by types u k n (decls.Subtype d at name subtype) = indicated types u k name d subtype
made_by types u k n (decls.Object d at name is_constant subtype value) = indicated types u k name d subtype
made_by types u k n (decls.Component d at name subtype preset) = indicated types u k name d subtype
made_by types u k n (decls.Protected d at name is_type operations end) = one_own n name d (forms.Protected d) 0
made_by types u k n (decls.Task d at name is_type end) = one_own n name d (forms.Task d) 0
made_by types u k n _ = made.Same (type_at 1)
