-- What is made stands behind what it is made of.
use Rattle.std.proofs.Common.{◌≡◌, ℕ, ◌<◌, ◌≤◌, Bool, true, false, nat_lt, cond, List, [], ◌∷◌, Option, Some, None, length, refl, ap, arith}
use Rattle.std.specs.Prelude.{All}
use Rattle.std.proofs.lemmas.Bool.{ltb-true}
use Rattle.std.proofs.lemmas.List.Elements.{All-cons, All-nil}
use Rattle.spark_base.specs.declared.numbers.DeclNo.{DeclNo}
use Rattle.spark_base.specs.declared.numbers.TypeNo.{TypeNo}
use Rattle.ada_tree.specs.declared.units.Units.{Units}
use Rattle.static_eval.specs.declared.known.Known.{Known}
use Rattle.ada_tree.specs.declared.expressions.ExprNode.{ExprNode}
use Rattle.spark_base.specs.declared.numbers.ExprNo.{ExprNo}
use Rattle.ada_forms.proofs.Numbered.{numbered}
use Rattle.ada_forms.specs.Declarations.{Decl, decl_of, read}
use Rattle.ada_forms.specs.Declarations as decls
use Rattle.ada_forms.specs.Forms.{Expr, Indication, Constrained, expr_of}
use Rattle.static_meanings.specs.Pairs.{told}
use Rattle.static_meanings.specs.Meanings.{type_at}
use Rattle.types_objects.specs.declared.types.FieldDef.{FieldDef}
use Rattle.types_objects.specs.declared.types.Types.{Types}
use Rattle.types_objects.specs.Made.{component_of, component_type, fields_of, number_in, with_one}
use Rattle.types_objects.specs.Marks.{type_named, there}
use Rattle.types_objects.specs.Table.{IsTable}

there_by : (n : ℕ) (t : TypeNo) (b : Bool) → nat_lt t.0 n ≡ b → 2 ≤ n → (cond b t (type_at 1)).0 < n
there_by n t true is some = ltb-true t.0 n is
there_by n t false is some = omega arith

pub integer_there : (types : Types) → IsTable types → 1 < length types.list
integer_there types table = let h = table.some in omega (arith, h)

-- the number of a type that counts is in the table
pub is_there : (types : Types) (o : Option TypeNo) → IsTable types → (there types o).0 < length types.list
is_there types None table = integer_there types table
is_there types (Some t) table = there_by (length types.list) t (nat_lt t.0 (length types.list)) refl table.some

component_there : (types : Types) (k : Known) (o : Option TypeNo) (t : Expr) → IsTable types → (component_type types k o t).0 < length types.list
component_there types k (Some t) subtype table = is_there types (Some t) table
component_there types k None (Indication e at mark) table = is_there types (type_named types k mark) table
component_there types k None (Constrained e at mark low high) table = is_there types (type_named types k mark) table
component_there types k None _ table = integer_there types table

-- a component that is one has a type that is there
abbrev IsThere : Types → Option FieldDef → Type 0
IsThere types None = Unit {0}
IsThere types (Some f) = f.of.0 < length types.list

field_there : (types : Types) (k : Known) (d : DeclNo) (decl : Decl) → IsTable types → IsThere types (component_of types k d decl)
field_there types k d (decls.Component c at name subtype preset) table = component_there types k (told types.numbers d.0) subtype table
field_there types k d _ table = tt

with_there : (types : Types) (o : Option FieldDef) (fs : List FieldDef) → IsThere types o
    → All (λ (f : FieldDef). f.of.0 < length types.list) fs → All (λ (f : FieldDef). f.of.0 < length types.list) (with_one o fs)
with_there types None fs o h = h
with_there types (Some f) fs o h = All-cons (λ (g : FieldDef). g.of.0 < length types.list) f fs o h

pub fields_there : (types : Types) (u : Units) (k : Known) (ds : List DeclNo) → IsTable types → All (λ (f : FieldDef). f.of.0 < length types.list) (fields_of types u k ds)
fields_there types u k [] table = All-nil (λ (f : FieldDef). f.of.0 < length types.list)
fields_there types u k (d ∷ ds) table =
    with_there types (component_of types k d (decl_of u d)) (fields_of types u k ds) (field_there types k d (decl_of u d) table) (fields_there types u k ds table)

-- a tree that is read keeps its number
pub number_read : (exprs : List ExprNode) (o : Option ExprNo) → number_in (read (expr_of exprs) o) ≡ o
number_read exprs None = refl
number_read exprs (Some e) = ap Some (numbered exprs e)
