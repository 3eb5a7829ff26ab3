-- The core program of a source of the first path.
use Rattle.std.specs.Prelude.{◌≡◌, ℕ, ◌+◌, Bool, true, false, List, [], ◌∷◌, ◌++◌, map, Some, None, unwrap_or, position, codes, pos, negsuc}
use Rattle.std.specs.List.{flat_map}
use Rattle.std.specs.Str.{bytes_eq}
use Rattle.spark_base.specs.declared.numbers.Span.{Span}
use Rattle.spark_base.specs.declared.numbers.StmtNo.{StmtNo}
use Rattle.core_form.specs.Code.{Expr, Spot, Code, Constant, Load, Operation, Checked, Nothing, And, At, Skip, Then, Clear, Branch, code_of}
use Rattle.core_form.specs.Code as core
use Rattle.core_form.specs.declared.code.CoreOp.{CoreOp}
use Rattle.core_form.specs.declared.code.CoreOp.TheVariants as op
use Rattle.core_form.specs.declared.contract.Contract.{Contract}
use Rattle.core_form.specs.declared.contract.GlobalItem.{GlobalItem}
use Rattle.core_form.specs.declared.contract.Mode.{Mode}
use Rattle.core_form.specs.declared.contract.Mode.TheVariants as modes
use Rattle.core_form.specs.declared.program.Body.{Body}
use Rattle.core_form.specs.declared.program.BodyKind.TheVariants as kinds
use Rattle.core_form.specs.declared.program.Home.TheVariants as home
use Rattle.core_form.specs.declared.program.Item.{Item}
use Rattle.core_form.specs.declared.program.Item.TheVariants as item
use Rattle.core_form.specs.declared.program.Leaf.{Leaf}
use Rattle.core_form.specs.declared.program.Package.{Package}
use Rattle.core_form.specs.declared.program.Part.TheVariants as part
use Rattle.core_form.specs.declared.program.Program.{Program}
use Rattle.core_form.specs.declared.program.Sharing.TheVariants as sharing
use Rattle.core_form.specs.declared.program.Var.{Var}
use Rattle.first_conditions.specs.Conditions.{key, variable_keys, entries_of, words_of, mode_named}
use Rattle.first_path.specs.Nested.{Statements, Last, More, Statement, Null, Assign, If, IfElse, statements_then}
use Rattle.first_path.specs.declared.source.Adding.{Adding}
use Rattle.first_path.specs.declared.source.Adding.TheVariants as adding
use Rattle.first_path.specs.declared.source.Entry.{Entry}
use Rattle.first_path.specs.declared.source.GlobalForm.{GlobalForm}
use Rattle.first_path.specs.declared.source.Line.{Line}
use Rattle.first_path.specs.declared.source.Line.TheVariants as line
use Rattle.first_path.specs.declared.source.Primary.{Primary}
use Rattle.first_path.specs.declared.source.Primary.TheVariants as primary
use Rattle.first_path.specs.declared.source.Relation.{Relation}
use Rattle.first_path.specs.declared.source.Relation.TheVariants as relation
use Rattle.first_path.specs.declared.source.Source.{Source}
use Rattle.first_path.specs.declared.source.Sum.{Sum}
use Rattle.first_path.specs.declared.source.Term.{Term}
use Rattle.first_path.specs.declared.source.Test.{Test}
use Rattle.first_path.specs.declared.source.Variable.{Variable}
use Rattle.first_path.specs.declared.source.Word.{Word}

-- Code. Names are keys; `keys` are those of the variables, in order.

-- the leaf of a name: the place of its variable
abbrev pub leaf_of : List (List ℕ) → Word → ℕ
leaf_of keys w = unwrap_or (position (bytes_eq (key w)) keys) 0

-- the whole leaf of a scalar variable
abbrev pub whole : ℕ → Spot
whole leaf = At leaf Nothing true 1

-- a value that is moved to an Integer is checked to be one
abbrev pub checked : Expr → Expr
checked e = Checked e (negsuc 2147483647) (pos 2147483647)

abbrev pub low_primary : List (List ℕ) → Primary → Expr
low_primary keys (primary.Name w) = Load (whole (leaf_of keys w)) w.span
low_primary keys (primary.Number n) = Constant (pos n)

abbrev pub operator_of : Adding → CoreOp
operator_of adding.Plus = op.Add
operator_of adding.Minus = op.Sub

-- an operator takes what stands before it, and its operand
abbrev pub low_term : List (List ℕ) → Expr → Term → Expr
low_term keys e t = Operation (operator_of t.operator) (And e (And (low_primary keys t.operand) Nothing))

abbrev pub low_terms : List (List ℕ) → Expr → List Term → Expr
low_terms keys e [] = e
low_terms keys e (t ∷ ts) = low_terms keys (low_term keys e t) ts

abbrev pub low_sum : List (List ℕ) → Sum → Expr
low_sum keys s = low_terms keys (low_primary keys s.first) s.more

abbrev pub apply : CoreOp → Expr → Expr → Expr
apply o e f = Operation o (And e (And f Nothing))

-- a relation of two values; greater is less, the other way round
abbrev pub low_relation : Relation → Expr → Expr → Expr
low_relation relation.Equal e f = apply op.Eq e f
low_relation relation.NotEqual e f = Operation op.Not (And (apply op.Eq e f) Nothing)
low_relation relation.Less e f = apply op.Lt e f
low_relation relation.AtMost e f = apply op.Le e f
low_relation relation.Greater e f = apply op.Lt f e
low_relation relation.AtLeast e f = apply op.Le f e

abbrev pub low_test : List (List ℕ) → Test → Expr
low_test keys t = low_relation t.relation (low_sum keys t.left) (low_sum keys t.right)

abbrev pub low_assignment : List (List ℕ) → Word → Sum → Code
low_assignment keys target value = core.Assign (whole (leaf_of keys target)) (checked (low_sum keys value)) target.span

-- codes one after another
abbrev pub chain : List Code → Code
chain [] = Skip
chain (c ∷ cs) = Then c (chain cs)

abbrev mutual
  -- the codes of a list of statements, one after another; null gives none
  pub low_codes : List (List ℕ) → Statements → List Code
  low_codes keys (Last s) = low_statement keys s
  low_codes keys (More s ss) = low_statement keys s ++ low_codes keys ss

  pub low_statement : List (List ℕ) → Statement → List Code
  low_statement keys Null = []
  low_statement keys (Assign target value) = low_assignment keys target value ∷ []
  low_statement keys (If test main) = Branch (low_test keys test) (chain (low_codes keys main)) Skip ∷ []
  low_statement keys (IfElse test main other) =
      Branch (low_test keys test) (chain (low_codes keys main)) (chain (low_codes keys other)) ∷ []

-- a list of statements is one sequence, and so is each side of an if that has statements
abbrev pub low_statements : List (List ℕ) → Statements → Code
low_statements keys ss = chain (low_codes keys ss)

-- a declaration makes its leaf fresh, and moves the initial value to it
abbrev pub low_variable : ℕ → Variable → Code → Code
low_variable leaf v rest = Then (Clear leaf) (Then (core.Assign (whole leaf) (checked (Constant (pos v.value))) v.name.span) rest)

abbrev pub low_variables : ℕ → List Variable → Code
low_variables leaf [] = Skip
low_variables leaf (v ∷ vs) = low_variable leaf v (low_variables (leaf + 1) vs)

-- Tables

-- PACKAGE.NAME
abbrev pub dotted : Word → Word → List ℕ
dotted p w = (p.written ++ codes ".") ++ w.written

abbrev pub low_leaf : Word → ℕ → Variable → Leaf
low_leaf p n v = record { name = dotted p v.name; var = record { 0 = n }; cells = 1 }

abbrev pub low_var : Word → ℕ → Variable → Var
low_var p n v = record {
  name = dotted p v.name;
  place = v.name.span;
  home = home.Package (record { 0 = 0 });
  part = part.Visible;
  state = None;
  sharing = sharing.Plain;
  «from» = record { 0 = n };
  count = 1;
  assigned = true;
}

abbrev pub low_item : ℕ → Variable → Item
low_item n v = item.Whole (record { 0 = n })

-- a row of a table for each variable, from this number on
abbrev pub each_from : {A : Type 0} → (ℕ → Variable → A) → ℕ → List Variable → List A
each_from row n [] = []
each_from row n (v ∷ vs) = row n v ∷ each_from row (n + 1) vs

abbrev pub mode_of : Entry → Mode
mode_of e = unwrap_or (mode_named (key e.mode)) modes.Input

abbrev pub low_global_item : List (List ℕ) → Mode → Word → GlobalItem
low_global_item keys mode w = record { item = record { 0 = leaf_of keys w }; mode = mode; place = w.span }

abbrev pub low_entry : List (List ℕ) → Entry → List GlobalItem
low_entry keys e = map (low_global_item keys (mode_of e)) (words_of e.names)

abbrev pub low_contract : List (List ℕ) → Word → GlobalForm → Contract
low_contract keys aspect g = record {
  globals = flat_map (low_entry keys) (entries_of g);
  depends = None;
  derived = false;
  place = aspect.span;
  global_place = Some aspect.span;
  depends_place = None;
  on_spec = true;
}

abbrev pub low_package : Word → Package
low_package p = record { name = p.written; place = p.span; has_states = false; initial = None; initial_place = None }

-- the elaboration of the spec or the body of the package, at its name there
abbrev pub elaboration : Word → Word → StmtNo → Bool → Body
elaboration p at code in_spec = record {
  name = p.written;
  place = at.span;
  declared = at.span;
  kind = kinds.Elaboration;
  «package» = Some (record { 0 = 0 });
  object = None;
  formals = [];
  code = code;
  outer = None;
  inner = None;
  in_spec = in_spec;
}

abbrev pub low_procedure : List (List ℕ) → Source → StmtNo → Body
low_procedure keys s code = record {
  name = dotted s.spec.«package» s.spec.procedure.name;
  place = s.body.procedure.name.span;
  declared = s.spec.procedure.name.span;
  kind = kinds.Procedure;
  «package» = Some (record { 0 = 0 });
  object = None;
  formals = [];
  code = code;
  outer = Some (low_contract keys s.spec.procedure.aspect s.spec.procedure.global);
  inner = None;
  in_spec = false;
}

abbrev pub assignments_of : List Line → List Span
assignments_of [] = []
assignments_of (line.Null ∷ ls) = assignments_of ls
assignments_of (line.Assign target value ∷ ls) = target.span ∷ assignments_of ls
assignments_of (line.If test ∷ ls) = assignments_of ls
assignments_of (line.Else ∷ ls) = assignments_of ls
assignments_of (line.EndIf ∷ ls) = assignments_of ls

-- The program

-- its tables, and the code of its three bodies: the elaborations of spec and body, and the procedure
pub record IsLowered (s : Source) (p : Program) : Type 0 where
  pub leaves : p.leaves ≡ each_from (low_leaf s.spec.«package») 0 s.spec.variables
  pub vars : p.vars ≡ each_from (low_var s.spec.«package») 0 s.spec.variables
  pub items : p.items ≡ each_from low_item 0 s.spec.variables
  pub packages : p.packages ≡ low_package s.spec.«package» ∷ []
  pub states : p.states.list ≡ []
  pub objects : p.objects ≡ []
  pub tasks : p.tasks ≡ []
  pub order : p.order ≡ record { 0 = 0 } ∷ record { 0 = 1 } ∷ []
  pub main : p.main ≡ None
  pub part_of : p.part_of ≡ []
  pub constituents : p.constituents ≡ []
  pub assignments : p.assignments ≡ assignments_of s.body.procedure.lines
  pub first : StmtNo
  pub second : StmtNo
  pub third : StmtNo
  pub bodies : p.bodies ≡ elaboration s.spec.«package» s.spec.«package» first true
      ∷ elaboration s.spec.«package» s.body.«package» second false
      ∷ low_procedure (variable_keys s.spec.variables) s third ∷ []
  pub spec_code : code_of p.exprs p.stmts first ≡ low_variables 0 s.spec.variables
  pub body_code : code_of p.exprs p.stmts second ≡ Skip
  pub statements : Statements
  pub written : s.body.procedure.lines ≡ statements_then statements []
  pub procedure_code : code_of p.exprs p.stmts third ≡ low_statements (variable_keys s.spec.variables) statements
