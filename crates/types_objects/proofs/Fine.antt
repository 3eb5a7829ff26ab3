-- What a declaration makes fits the table.
use Rattle.std.proofs.Common.{◌≡◌, ℕ, ◌<◌, List, [], ◌∷◌, ◌++◌, Option, Some, None, length, refl, sym, ap, ◌∙◌, subst, arith, length-append}
use Rattle.std.specs.Prelude.{Result, Ok, Err}
use Rattle.spark_base.specs.declared.name.Name.{Name}
use Rattle.spark_base.specs.declared.numbers.DeclNo.{DeclNo}
use Rattle.spark_base.specs.declared.numbers.FileNo.{FileNo}
use Rattle.spark_base.specs.declared.numbers.TypeNo.{TypeNo}
use Rattle.spark_messages.specs.declared.messages.PhaseFault.{PhaseFault}
use Rattle.spark_messages.specs.declared.messages.PhaseFault.TheVariants as faults
use Rattle.ada_tree.specs.declared.units.Units.{Units}
use Rattle.static_eval.specs.declared.known.Known.{Known}
use Rattle.static_meanings.specs.declared.meanings.Range.{Range}
use Rattle.ada_forms.specs.Declarations.{Decl}
use Rattle.ada_forms.specs.Declarations as decls
use Rattle.ada_forms.specs.Forms.{Expr, Indication, Constrained, SubtypeRange, BoundsRange, AttributeRange}
use Rattle.static_eval.specs.Judgements.{either}
use Rattle.static_eval.specs.Known.{range_of_mark}
use Rattle.types_objects.specs.declared.bounds.Formed.{Formed}
use Rattle.types_objects.specs.declared.bounds.Formed.TheVariants as formed
use Rattle.types_objects.specs.declared.made.Made.{Made}
use Rattle.types_objects.specs.declared.made.Made.TheVariants as made
use Rattle.types_objects.specs.declared.made.NewType.{NewType}
use Rattle.types_objects.specs.declared.types.TypeDef.{TypeDef}
use Rattle.types_objects.specs.declared.types.Types.{Types}
use Rattle.types_objects.specs.Adding.{appended, numbered, IsAdded}
use Rattle.types_objects.specs.Bounds.{of_bounds, of_modulus, of_subtype}
use Rattle.types_objects.specs.Counts.{capped, count, count_of_form}
use Rattle.types_objects.specs.Made.{array_over, bounded, index_of, indicated, made_by, numeric, or_integers, range_in, said_of, subtype_in, widest}
use Rattle.types_objects.specs.Marks.{type_named, type_of_mark}
use Rattle.types_objects.specs.Firsts.{first_of}
use Rattle.types_objects.specs.Table.{IsTable}
use Rattle.types_objects.specs.Types.{IsFormed}
use Rattle.types_objects.proofs.Kept.{more}
use Rattle.types_objects.proofs.Moduli.{IsSound, bounds_sound, modulus_sound, subtype_sound}
use Rattle.types_objects.proofs.Tables.{fields_there, integer_there, is_there}

-- a type that fits behind these
pub record Fits (list : List TypeDef) (x : NewType) : Type 0 where
  pub below : IsFormed (length list) x.def.form
  pub leaves : x.def.leaves ≡ capped (count_of_form (count list) x.def.form)

abbrev pub IsFine : List TypeDef → Made → Type 0
IsFine list (made.Refused code place) = Unit {0}
IsFine list (made.Same t) = t.0 < length list
IsFine list (made.One x) = Fits list x
IsFine list (made.Two x y) = Fits list x × Fits (list ++ x.def ∷ []) y

numeric_fine : (list : List TypeDef) (n : ℕ) (name : Name) (d : DeclNo) (f : Formed) → IsSound f → IsFine list (numeric n name d f)
numeric_fine list n name d (formed.Bounds low high) sound = record { below = tt; leaves = refl }
numeric_fine list n name d (formed.Modulus m) sound = record { below = sound; leaves = refl }
numeric_fine list n name d (formed.Refused code place) sound = tt

bounded_fine : (list : List TypeDef) (first : TypeNo) (name : Name) (d : DeclNo) (f : Formed) → IsSound f → IsFine list (bounded first name d f)
bounded_fine list first name d (formed.Bounds low high) sound = record { below = tt; leaves = refl }
bounded_fine list first name d (formed.Modulus m) sound = record { below = sound; leaves = refl }
bounded_fine list first name d (formed.Refused code place) sound = tt

indicated_fine : (types : Types) (u : Units) (k : Known) (name : Name) (d : DeclNo) (t : Expr) → IsTable types → IsFine types.list (indicated types u k name d t)
indicated_fine types u k name d (Indication e at mark) table = is_there types (type_named types k mark) table
indicated_fine types u k name d (Constrained e at mark low high) table =
    bounded_fine types.list (first_of types (type_of_mark types k mark)) name d (of_subtype (range_of_mark k mark) (said_of u k low) (said_of u k high))
    (subtype_sound (range_of_mark k mark) (said_of u k low) (said_of u k high))
indicated_fine types u k name d _ table = integer_there types table

subtype_there : (types : Types) (r : Option Range) → IsTable types → (subtype_in types r).0 < length types.list
subtype_there types None table = integer_there types table
subtype_there types (Some range) table = is_there types (Some range.subtype) table

index_fine : (types : Types) (u : Units) (k : Known) (name : Name) (d : DeclNo) (t : Expr) → IsTable types → IsFine types.list (index_of types u k name d t)
index_fine types u k name d (SubtypeRange e at subtype) table = indicated_fine types u k name d subtype table
index_fine types u k name d (BoundsRange e at low high) table =
    let r : Range = or_integers (either (said_of u k low).of (said_of u k high).of) in
    bounded_fine types.list r.first name d (of_subtype (Some (widest r)) (said_of u k low) (said_of u k high))
    (subtype_sound (Some (widest r)) (said_of u k low) (said_of u k high))
index_fine types u k name d (AttributeRange e at attribute) table = subtype_there types (range_in u k attribute) table
index_fine types u k name d _ table = integer_there types table

array_fine : (list : List TypeDef) (name : Name) (d : DeclNo) (of : TypeNo) (index : Made) → of.0 < length list → IsFine list index
    → IsFine list (array_over (length list) name d of index)
array_fine list name d of (made.Same index) b h = record { below = (h, b); leaves = refl }
array_fine list name d of (made.One x) b h = (
  h,
  record {
    below = (omega (arith, length-append list (x.def ∷ [])), omega (arith, b, length-append list (x.def ∷ [])));
    leaves = refl;
  },
)
array_fine list name d of (made.Two x y) b h = h
array_fine list name d of (made.Refused code place) b h = tt

pub made_fine : (types : Types) (u : Units) (k : Known) (decl : Decl) → IsTable types → IsFine types.list (made_by types u k (length types.list) decl)
made_fine types u k (decls.EnumerationType d at name literals) table = record { below = tt; leaves = refl }
made_fine types u k (decls.RangeType d at name low high) table =
    numeric_fine types.list (length types.list) name d (of_bounds (said_of u k low) (said_of u k high)) (bounds_sound (said_of u k low) (said_of u k high))
made_fine types u k (decls.ModularType d at name modulus) table =
    numeric_fine types.list (length types.list) name d (of_modulus (said_of u k modulus)) (modulus_sound (said_of u k modulus))
made_fine types u k (decls.ArrayType d at name index element) table =
    array_fine types.list name d (type_of_mark types k element) (index_of types u k name d index) (is_there types (type_named types k element) table)
    (index_fine types u k name d index table)
made_fine types u k (decls.NullRecordType d at name) table = record { below = fields_there types u k [] table; leaves = refl }
made_fine types u k (decls.RecordType d at name components) table = record { below = fields_there types u k components table; leaves = refl }
made_fine types u k (decls.Subtype d at name subtype) table = indicated_fine types u k name d subtype table
made_fine types u k (decls.Object d at name is_constant subtype value) table = indicated_fine types u k name d subtype table
made_fine types u k (decls.Component d at name subtype preset) table = indicated_fine types u k name d subtype table
made_fine types u k (decls.Protected d at name is_type operations end) table = record { below = tt; leaves = refl }
made_fine types u k (decls.Task d at name is_type end) table = record { below = tt; leaves = refl }
made_fine types u k _ table = integer_there types table

-- numbers of declarations say nothing of a table
pub with_numbers : (t : Types) (numbers : List (ℕ × TypeNo)) → IsTable t → IsTable (record t { numbers = numbers })
with_numbers t numbers table = record { some = table.some; firsts = table.firsts; ranked = table.ranked; counted = table.counted }

with_number : (t : Types) (d : DeclNo) (n : TypeNo) → IsTable t → IsTable (numbered t d n)
with_number t d n table = with_numbers t (t.numbers ++ (d.0, n) ∷ []) table

one_more : (t : Types) (x : NewType) → IsTable t → Fits t.list x → IsTable (appended t x)
one_more t x table fits = more t x table fits.below fits.leaves

-- what is made by the same

pub numeric_same : (n : ℕ) (a b : Name) (d : DeclNo) (x y : Formed) → a ≡ b → x ≡ y → numeric n a d x ≡ numeric n b d y
numeric_same n a b d x y name formed = ap (λ z. numeric n z d x) name ∙ ap (λ z. numeric n b d z) formed

pub bounded_same : (f g : TypeNo) (a b : Name) (d : DeclNo) (x y : Formed) → f ≡ g → a ≡ b → x ≡ y → bounded f a d x ≡ bounded g b d y
bounded_same f g a b d x y first name formed = ap (λ z. bounded z a d x) first ∙ ap (λ z. bounded g z d x) name ∙ ap (λ z. bounded g b d z) formed

-- what is added leaves a table
pub kept : (d : DeclNo) (file : FileNo) (made : Made) (old new : Types) (result : Result TypeNo PhaseFault) → IsTable old → IsFine old.list made
    → IsAdded d file made old new result → IsTable new
kept d file (made.Refused code at) old new (Ok n) table fine h = absurd h
kept d file (made.Refused code at) old new (Err (faults.Refused m)) table fine h = subst IsTable (sym h.1) table
kept d file (made.Refused code at) old new (Err faults.NoMemory) table fine h = subst IsTable (sym h) table
kept d file (made.Same t) old new (Ok n) table fine h = subst IsTable (sym h.1) (with_number old d t table)
kept d file (made.Same t) old new (Err (faults.Refused m)) table fine h = absurd h
kept d file (made.Same t) old new (Err faults.NoMemory) table fine h = subst IsTable (sym h) table
kept d file (made.One x) old new (Ok n) table fine h = subst IsTable (sym h.1) (with_number (appended old x) d n (one_more old x table fine))
kept d file (made.One x) old new (Err (faults.Refused m)) table fine h = absurd h
kept d file (made.One x) old new (Err faults.NoMemory) table fine h = subst IsTable (sym h) table
kept d file (made.Two x y) old new (Ok n) table fine h =
    subst IsTable (sym h.1) (with_number (appended (appended old x) y) d n (one_more (appended old x) y (one_more old x table fine.0) fine.1))
kept d file (made.Two x y) old new (Err (faults.Refused m)) table fine h = absurd h
kept d file (made.Two x y) old new (Err faults.NoMemory) table fine h = subst IsTable (sym h) table

pub added_kept : (types new : Types) (u : Units) (k : Known) (d : DeclNo) (file : FileNo) (decl : Decl) (result : Result TypeNo PhaseFault) → IsTable types
    → IsAdded d file (made_by types u k (length types.list) decl) types new result → IsTable new
added_kept types new u k d file decl result table added =
    kept d file (made_by types u k (length types.list) decl) types new result table (made_fine types u k decl table) added
