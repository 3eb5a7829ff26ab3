-- The forms of numbered declarations.
use Rattle.std.specs.Prelude.{ℕ, ◌<◌, Bool, nat_lt, if◌then◌else◌, List, [], ◌∷◌, All, map, slice_get, Option, Some, None}
use Rattle.std.specs.List.{list_all}
use Rattle.spark_base.specs.declared.name.Name.{Name}
use Rattle.spark_base.specs.declared.numbers.DeclNo.{DeclNo}
use Rattle.spark_base.specs.declared.numbers.ExprNo.{ExprNo}
use Rattle.spark_base.specs.declared.numbers.Pos.{Pos}
use Rattle.spark_base.specs.declared.numbers.StmtNo.{StmtNo}
use Rattle.ada_tree.specs.declared.declarations.DeclKind.{DeclKind}
use Rattle.ada_tree.specs.declared.declarations.DeclKind.TheVariants as kinds
use Rattle.ada_tree.specs.declared.declarations.DeclNode.{DeclNode}
use Rattle.ada_tree.specs.declared.declarations.Head.{Head}
use Rattle.ada_tree.specs.declared.declarations.Head.TheVariants as heads
use Rattle.ada_tree.specs.declared.units.Units.{Units}
use Rattle.ada_forms.specs.declared.declarations.DeclForm.{DeclForm}
use Rattle.ada_forms.specs.declared.declarations.DeclForm.TheVariants as forms
use Rattle.ada_forms.specs.Forms.{Expr, Exprs, expr_of, listed}

-- a declaration: its number, its place, its name and its parts; declarations and statements in it by their numbers
pub data Decl : Type 0 where
  With : DeclNo → Pos → Exprs → Decl
  ContextUse : DeclNo → Pos → Bool → Exprs → Decl
  Use : DeclNo → Pos → Bool → Exprs → Decl
  PrivatePart : DeclNo → Pos → List DeclNo → Decl
  EnumerationType : DeclNo → Pos → Name → List DeclNo → Decl
  EnumerationLiteral : DeclNo → Pos → Name → Decl
  RangeType : DeclNo → Pos → Name → Expr → Expr → Decl
  ModularType : DeclNo → Pos → Name → Expr → Decl
  ArrayType : DeclNo → Pos → Name → Expr → Expr → Decl
  NullRecordType : DeclNo → Pos → Name → Decl
  PrivateType : DeclNo → Pos → Name → Decl
  RecordType : DeclNo → Pos → Name → List DeclNo → Decl
  Component : DeclNo → Pos → Name → Expr → Option Expr → Decl
  Subtype : DeclNo → Pos → Name → Expr → Decl
  Object : DeclNo → Pos → Name → Bool → Expr → Option Expr → Decl
  NamedNumber : DeclNo → Pos → Name → Expr → Decl
  Formal : DeclNo → Pos → Name → Bool → Bool → Expr → Decl
  Subprogram : DeclNo → Pos → Name → Bool → List DeclNo → Option Expr → Decl
  ExpressionFunction : DeclNo → Pos → Name → List DeclNo → Expr → Expr → Decl
  SubprogramBody : DeclNo → Pos → Name → List DeclNo → Option Expr → StmtNo → Option Expr → Decl
  Task : DeclNo → Pos → Name → Bool → Option Expr → Decl
  TaskBody : DeclNo → Pos → Name → List DeclNo → StmtNo → Option Expr → Decl
  Protected : DeclNo → Pos → Name → Bool → List DeclNo → Option Expr → Decl
  ProtectedSubprogram : DeclNo → Pos → Name → List DeclNo → Option Expr → Decl
  Entry : DeclNo → Pos → Name → List DeclNo → Decl
  ProtectedBody : DeclNo → Pos → Name → List DeclNo → Option Expr → Decl
  EntryBody : DeclNo → Pos → Name → List DeclNo → Expr → StmtNo → Option Expr → Decl
  LoopParameter : DeclNo → Pos → Name → Bool → Expr → Decl
  StatementName : DeclNo → Pos → Name → Decl
  State : DeclNo → Pos → Name → Bool → Decl
  -- a node of another shape, or none
  Absent : Decl

abbrev pub read : (ExprNo → Expr) → Option ExprNo → Option Expr
read tree None = None
read tree (Some e) = Some (tree e)

-- the declaration of a form, from the trees of its expressions
abbrev pub decl_tree : (ExprNo → Expr) → DeclNo → Pos → DeclForm → Decl
decl_tree tree d at (forms.With units) = With d at (listed (map tree units.now))
decl_tree tree d at (forms.ContextUse is_type units) = ContextUse d at is_type (listed (map tree units.now))
decl_tree tree d at (forms.Use is_type units) = Use d at is_type (listed (map tree units.now))
decl_tree tree d at (forms.PrivatePart decls) = PrivatePart d at decls.now
decl_tree tree d at (forms.EnumerationType name literals) = EnumerationType d at name.now literals.now
decl_tree tree d at (forms.EnumerationLiteral name) = EnumerationLiteral d at name.now
decl_tree tree d at (forms.RangeType name low high) = RangeType d at name.now (tree low) (tree high)
decl_tree tree d at (forms.ModularType name modulus) = ModularType d at name.now (tree modulus)
decl_tree tree d at (forms.ArrayType name index element) = ArrayType d at name.now (tree index) (tree element)
decl_tree tree d at (forms.NullRecordType name) = NullRecordType d at name.now
decl_tree tree d at (forms.PrivateType name) = PrivateType d at name.now
decl_tree tree d at (forms.RecordType name components) = RecordType d at name.now components.now
decl_tree tree d at (forms.Component name subtype preset) = Component d at name.now (tree subtype) (read tree preset)
decl_tree tree d at (forms.Subtype name subtype) = Subtype d at name.now (tree subtype)
decl_tree tree d at (forms.Object name is_constant subtype value) = Object d at name.now is_constant (tree subtype) (read tree value)
decl_tree tree d at (forms.NamedNumber name value) = NamedNumber d at name.now (tree value)
decl_tree tree d at (forms.Formal name is_in is_out mark) = Formal d at name.now is_in is_out (tree mark)
decl_tree tree d at (forms.Subprogram name is_null formals result_mark) = Subprogram d at name.now is_null formals.now (read tree result_mark)
decl_tree tree d at (forms.ExpressionFunction name formals mark value) = ExpressionFunction d at name.now formals.now (tree mark) (tree value)
decl_tree tree d at (forms.SubprogramBody name decls result_mark body end) = SubprogramBody d at name.now decls.now (read tree result_mark) body (read tree end)
decl_tree tree d at (forms.Task name is_type end) = Task d at name.now is_type (read tree end)
decl_tree tree d at (forms.TaskBody name decls body end) = TaskBody d at name.now decls.now body (read tree end)
decl_tree tree d at (forms.Protected name is_type decls end) = Protected d at name.now is_type decls.now (read tree end)
decl_tree tree d at (forms.ProtectedSubprogram name formals result_mark) = ProtectedSubprogram d at name.now formals.now (read tree result_mark)
decl_tree tree d at (forms.Entry name formals) = Entry d at name.now formals.now
decl_tree tree d at (forms.ProtectedBody name decls end) = ProtectedBody d at name.now decls.now (read tree end)
decl_tree tree d at (forms.EntryBody name decls barrier body end) = EntryBody d at name.now decls.now (tree barrier) body (read tree end)
decl_tree tree d at (forms.LoopParameter name is_reverse range) = LoopParameter d at name.now is_reverse (tree range)
decl_tree tree d at (forms.StatementName name) = StatementName d at name.now
decl_tree tree d at (forms.State name has_options) = State d at name.now has_options
decl_tree tree d at forms.Absent = Absent

-- Nodes, by the trees of their expressions

abbrev pub range_type_at : DeclNo → Pos → Name → List Expr → Decl
range_type_at d at name (low ∷ high ∷ []) = RangeType d at name low high
range_type_at d at name _ = Absent

abbrev pub modular_type_at : DeclNo → Pos → Name → List Expr → Decl
modular_type_at d at name (modulus ∷ []) = ModularType d at name modulus
modular_type_at d at name _ = Absent

abbrev pub array_type_at : DeclNo → Pos → Name → List Expr → Decl
array_type_at d at name (index ∷ element ∷ []) = ArrayType d at name index element
array_type_at d at name _ = Absent

abbrev pub component_at : DeclNo → Pos → Name → List Expr → Decl
component_at d at name (subtype ∷ []) = Component d at name subtype None
component_at d at name (subtype ∷ preset ∷ []) = Component d at name subtype (Some preset)
component_at d at name _ = Absent

abbrev pub subtype_at : DeclNo → Pos → Name → List Expr → Decl
subtype_at d at name (subtype ∷ []) = Subtype d at name subtype
subtype_at d at name _ = Absent

abbrev pub object_at : DeclNo → Pos → Name → Bool → List Expr → Decl
object_at d at name is_constant (subtype ∷ []) = Object d at name is_constant subtype None
object_at d at name is_constant (subtype ∷ value ∷ []) = Object d at name is_constant subtype (Some value)
object_at d at name is_constant _ = Absent

abbrev pub named_number_at : DeclNo → Pos → Name → List Expr → Decl
named_number_at d at name (value ∷ []) = NamedNumber d at name value
named_number_at d at name _ = Absent

abbrev pub formal_at : DeclNo → Pos → Name → Bool → Bool → List Expr → Decl
formal_at d at name is_in is_out (mark ∷ []) = Formal d at name is_in is_out mark
formal_at d at name is_in is_out _ = Absent

abbrev pub expression_function_at : DeclNo → Pos → Name → List DeclNo → List Expr → Decl
expression_function_at d at name formals (mark ∷ value ∷ []) = ExpressionFunction d at name formals mark value
expression_function_at d at name formals _ = Absent

abbrev pub task_at : DeclNo → Pos → Name → Bool → List Expr → Decl
task_at d at name is_type [] = Task d at name is_type None
task_at d at name is_type (end ∷ []) = Task d at name is_type (Some end)
task_at d at name is_type _ = Absent

abbrev pub protected_unit_at : DeclNo → Pos → Name → Bool → List DeclNo → List Expr → Decl
protected_unit_at d at name is_type decls [] = Protected d at name is_type decls None
protected_unit_at d at name is_type decls (end ∷ []) = Protected d at name is_type decls (Some end)
protected_unit_at d at name is_type decls _ = Absent

abbrev pub protected_body_at : DeclNo → Pos → Name → List DeclNo → List Expr → Decl
protected_body_at d at name decls [] = ProtectedBody d at name decls None
protected_body_at d at name decls (end ∷ []) = ProtectedBody d at name decls (Some end)
protected_body_at d at name decls _ = Absent

abbrev pub task_body_at : DeclNo → Pos → Name → List DeclNo → StmtNo → List Expr → Decl
task_body_at d at name decls body [] = TaskBody d at name decls body None
task_body_at d at name decls body (end ∷ []) = TaskBody d at name decls body (Some end)
task_body_at d at name decls body _ = Absent

abbrev pub entry_body_at : DeclNo → Pos → Name → List DeclNo → StmtNo → List Expr → Decl
entry_body_at d at name decls body (barrier ∷ []) = EntryBody d at name decls barrier body None
entry_body_at d at name decls body (barrier ∷ end ∷ []) = EntryBody d at name decls barrier body (Some end)
entry_body_at d at name decls body _ = Absent

abbrev pub procedure_at : DeclNo → Pos → Name → Bool → List DeclNo → List Expr → Decl
procedure_at d at name is_null formals [] = Subprogram d at name is_null formals None
procedure_at d at name is_null formals _ = Absent

abbrev pub function_at : DeclNo → Pos → Name → Bool → List DeclNo → List Expr → Decl
function_at d at name is_null formals (result_mark ∷ []) = Subprogram d at name is_null formals (Some result_mark)
function_at d at name is_null formals _ = Absent

abbrev pub procedure_body_at : DeclNo → Pos → Name → List DeclNo → StmtNo → List Expr → Decl
procedure_body_at d at name decls body [] = SubprogramBody d at name decls None body None
procedure_body_at d at name decls body (end ∷ []) = SubprogramBody d at name decls None body (Some end)
procedure_body_at d at name decls body _ = Absent

abbrev pub function_body_at : DeclNo → Pos → Name → List DeclNo → StmtNo → List Expr → Decl
function_body_at d at name decls body (result_mark ∷ []) = SubprogramBody d at name decls (Some result_mark) body None
function_body_at d at name decls body (result_mark ∷ end ∷ []) = SubprogramBody d at name decls (Some result_mark) body (Some end)
function_body_at d at name decls body _ = Absent

abbrev pub protected_procedure_at : DeclNo → Pos → Name → List DeclNo → List Expr → Decl
protected_procedure_at d at name formals [] = ProtectedSubprogram d at name formals None
protected_procedure_at d at name formals _ = Absent

abbrev pub protected_function_at : DeclNo → Pos → Name → List DeclNo → List Expr → Decl
protected_function_at d at name formals (result_mark ∷ []) = ProtectedSubprogram d at name formals (Some result_mark)
protected_function_at d at name formals _ = Absent

abbrev pub loop_parameter_at : DeclNo → Pos → Name → Bool → List Expr → Decl
loop_parameter_at d at name is_reverse (range ∷ []) = LoopParameter d at name is_reverse range
loop_parameter_at d at name is_reverse _ = Absent

abbrev pub subprogram_at : DeclNo → Pos → Name → Head → Bool → List DeclNo → List Expr → Decl
subprogram_at d at name (heads.Procedure has_formals) is_null formals ts = procedure_at d at name is_null formals ts
subprogram_at d at name (heads.Function has_formals) is_null formals ts = function_at d at name is_null formals ts

abbrev pub protected_subprogram_at : DeclNo → Pos → Name → Head → List DeclNo → List Expr → Decl
protected_subprogram_at d at name (heads.Procedure has_formals) formals ts = protected_procedure_at d at name formals ts
protected_subprogram_at d at name (heads.Function has_formals) formals ts = protected_function_at d at name formals ts

abbrev pub body_with : DeclNo → Pos → Name → Head → List DeclNo → StmtNo → List Expr → Decl
body_with d at name (heads.Procedure has_formals) decls body ts = procedure_body_at d at name decls body ts
body_with d at name (heads.Function has_formals) decls body ts = function_body_at d at name decls body ts

-- a body has one sequence of statements

abbrev pub subprogram_body_at : DeclNo → Pos → Name → Head → List DeclNo → List StmtNo → List Expr → Decl
subprogram_body_at d at name head decls (body ∷ []) ts = body_with d at name head decls body ts
subprogram_body_at d at name head decls _ ts = Absent

abbrev pub body_of_task_at : DeclNo → Pos → Name → List DeclNo → List StmtNo → List Expr → Decl
body_of_task_at d at name decls (body ∷ []) ts = task_body_at d at name decls body ts
body_of_task_at d at name decls _ ts = Absent

abbrev pub body_of_entry_at : DeclNo → Pos → Name → List DeclNo → List StmtNo → List Expr → Decl
body_of_entry_at d at name decls (body ∷ []) ts = entry_body_at d at name decls body ts
body_of_entry_at d at name decls _ ts = Absent

abbrev pub named_at : DeclNo → Pos → Name → DeclKind → List Expr → List DeclNo → List StmtNo → Decl
named_at d at name kinds.EnumerationType ts ds ss = EnumerationType d at name ds
named_at d at name kinds.EnumerationLiteral ts ds ss = EnumerationLiteral d at name
named_at d at name kinds.RangeType ts ds ss = range_type_at d at name ts
named_at d at name kinds.ModularType ts ds ss = modular_type_at d at name ts
named_at d at name kinds.ArrayType ts ds ss = array_type_at d at name ts
named_at d at name kinds.NullRecordType ts ds ss = NullRecordType d at name
named_at d at name kinds.PrivateType ts ds ss = PrivateType d at name
named_at d at name kinds.RecordType ts ds ss = RecordType d at name ds
named_at d at name (kinds.Component has_preset) ts ds ss = component_at d at name ts
named_at d at name kinds.Subtype ts ds ss = subtype_at d at name ts
named_at d at name (kinds.Object is_constant has_initial_value) ts ds ss = object_at d at name is_constant ts
named_at d at name kinds.NamedNumber ts ds ss = named_number_at d at name ts
named_at d at name (kinds.Formal is_in is_out) ts ds ss = formal_at d at name is_in is_out ts
named_at d at name (kinds.SubprogramDeclaration head is_null) ts ds ss = subprogram_at d at name head is_null ds ts
named_at d at name (kinds.ExpressionFunction head) ts ds ss = expression_function_at d at name ds ts
named_at d at name (kinds.SubprogramBody head has_end_name) ts ds ss = subprogram_body_at d at name head ds ss ts
named_at d at name (kinds.Task is_type has_definition has_end_name) ts ds ss = task_at d at name is_type ts
named_at d at name (kinds.TaskBody has_end_name) ts ds ss = body_of_task_at d at name ds ss ts
named_at d at name (kinds.Protected is_type has_private_part has_end_name) ts ds ss = protected_unit_at d at name is_type ds ts
named_at d at name (kinds.ProtectedSubprogram head) ts ds ss = protected_subprogram_at d at name head ds ts
named_at d at name (kinds.Entry has_formals) ts ds ss = Entry d at name ds
named_at d at name (kinds.ProtectedBody has_end_name) ts ds ss = protected_body_at d at name ds ts
named_at d at name (kinds.EntryBody has_formals has_end_name) ts ds ss = body_of_entry_at d at name ds ss ts
named_at d at name (kinds.LoopParameter is_reverse) ts ds ss = loop_parameter_at d at name is_reverse ts
named_at d at name kinds.StatementName ts ds ss = StatementName d at name
named_at d at name (kinds.State has_options) ts ds ss = State d at name has_options
named_at d at name _ ts ds ss = Absent

abbrev pub unnamed_at : DeclNo → Pos → DeclKind → List Expr → List DeclNo → Decl
unnamed_at d at kinds.With ts ds = With d at (listed ts)
unnamed_at d at (kinds.ContextUse is_type) ts ds = ContextUse d at is_type (listed ts)
unnamed_at d at (kinds.Use is_type) ts ds = Use d at is_type (listed ts)
unnamed_at d at kinds.PrivatePart ts ds = PrivatePart d at ds
unnamed_at d at _ ts ds = Absent

abbrev pub decl_by_name : DeclNo → Pos → Option Name → DeclKind → List Expr → List DeclNo → List StmtNo → Decl
decl_by_name d at None kind ts ds ss = unnamed_at d at kind ts ds
decl_by_name d at (Some name) kind ts ds ss = named_at d at name kind ts ds ss

-- whether the declarations in one have smaller numbers
abbrev pub are_decls_below : DeclNo → List DeclNo → Bool
are_decls_below d ds = list_all (λ (c : DeclNo). nat_lt c.0 d.0) ds

abbrev pub node_decl : (ExprNo → Expr) → DeclNo → Option DeclNode → Decl
node_decl tree d None = Absent
node_decl tree d (Some node) =
    if are_decls_below d node.decls then decl_by_name d node.span.«from» node.name node.kind (map tree node.exprs) node.decls node.stmts
    else Absent

-- the form of a declaration; one in which a declaration has no smaller number is absent
abbrev pub decl_of : Units → DeclNo → Decl
decl_of u d = node_decl (expr_of u.exprs) d (slice_get u.decls d.0)

-- the declarations in a form have smaller numbers
abbrev pub AreDeclsBelow : ℕ → DeclForm → Type 0
AreDeclsBelow n (forms.With units) = Unit {0}
AreDeclsBelow n (forms.ContextUse is_type units) = Unit {0}
AreDeclsBelow n (forms.Use is_type units) = Unit {0}
AreDeclsBelow n (forms.PrivatePart decls) = All (λ (c : DeclNo). c.0 < n) decls.now
AreDeclsBelow n (forms.EnumerationType name literals) = All (λ (c : DeclNo). c.0 < n) literals.now
AreDeclsBelow n (forms.EnumerationLiteral name) = Unit {0}
AreDeclsBelow n (forms.RangeType name low high) = Unit {0}
AreDeclsBelow n (forms.ModularType name modulus) = Unit {0}
AreDeclsBelow n (forms.ArrayType name index element) = Unit {0}
AreDeclsBelow n (forms.NullRecordType name) = Unit {0}
AreDeclsBelow n (forms.PrivateType name) = Unit {0}
AreDeclsBelow n (forms.RecordType name components) = All (λ (c : DeclNo). c.0 < n) components.now
AreDeclsBelow n (forms.Component name subtype preset) = Unit {0}
AreDeclsBelow n (forms.Subtype name subtype) = Unit {0}
AreDeclsBelow n (forms.Object name is_constant subtype value) = Unit {0}
AreDeclsBelow n (forms.NamedNumber name value) = Unit {0}
AreDeclsBelow n (forms.Formal name is_in is_out mark) = Unit {0}
AreDeclsBelow n (forms.Subprogram name is_null formals result_mark) = All (λ (c : DeclNo). c.0 < n) formals.now
AreDeclsBelow n (forms.ExpressionFunction name formals mark value) = All (λ (c : DeclNo). c.0 < n) formals.now
AreDeclsBelow n (forms.SubprogramBody name decls result_mark body end) = All (λ (c : DeclNo). c.0 < n) decls.now
AreDeclsBelow n (forms.Task name is_type end) = Unit {0}
AreDeclsBelow n (forms.TaskBody name decls body end) = All (λ (c : DeclNo). c.0 < n) decls.now
AreDeclsBelow n (forms.Protected name is_type decls end) = All (λ (c : DeclNo). c.0 < n) decls.now
AreDeclsBelow n (forms.ProtectedSubprogram name formals result_mark) = All (λ (c : DeclNo). c.0 < n) formals.now
AreDeclsBelow n (forms.Entry name formals) = All (λ (c : DeclNo). c.0 < n) formals.now
AreDeclsBelow n (forms.ProtectedBody name decls end) = All (λ (c : DeclNo). c.0 < n) decls.now
AreDeclsBelow n (forms.EntryBody name decls barrier body end) = All (λ (c : DeclNo). c.0 < n) decls.now
AreDeclsBelow n (forms.LoopParameter name is_reverse range) = Unit {0}
AreDeclsBelow n (forms.StatementName name) = Unit {0}
AreDeclsBelow n (forms.State name has_options) = Unit {0}
AreDeclsBelow n forms.Absent = Unit {0}
