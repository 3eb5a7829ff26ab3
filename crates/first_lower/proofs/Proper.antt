-- An assembled program is proper.
use Rattle.std.proofs.Common.{◌≡◌, ◌↔◌, ℕ, ◌+◌, ◌<◌, ◌≤◌, List, [], Some, All, length, refl, ap, sym, subst, ◌∙◌, arith}
use Rattle.std.specs.Prelude.{slice_get, true}
use Rattle.std.proofs.lemmas.List.Elements.{All-nil}
use Rattle.spark_base.specs.declared.numbers.StmtNo.{StmtNo}
use Rattle.core_form.specs.Code.{Code, code_of}
use Rattle.core_form.specs.Proper.{IsDeclared, IsProper, IsProperList, MayWrite, cells_of}
use Rattle.core_form.specs.declared.build.Nodes.{Nodes}
use Rattle.core_form.specs.declared.program.Body.{Body}
use Rattle.core_form.specs.declared.program.Leaf.{Leaf}
use Rattle.core_form.specs.declared.program.Program.{Program}
use Rattle.core_form.specs.declared.program.Var.{Var}
use Rattle.first_path.specs.declared.source.Source.{Source}
use Rattle.first_lower.specs.Assembled.{HasRoots, IsAssembled}
use Rattle.first_lower.specs.Known.{Each, KnownLine}
use Rattle.first_lower.specs.Lowered.{elaboration, low_leaf, low_procedure, low_statements, low_var, low_variables}
use Rattle.first_lower.specs.declared.program.Roots.{Roots}
use Rattle.first_lower.proofs.Entries.{All-slice_get, entry_here, entry_of}
use Rattle.first_lower.proofs.Seen.{statements_known, statements_proper, variables_proper}
use Rattle.first_lower.proofs.WellFormed.{procedure_code, three_bodies}
use Rattle.first_path.specs.Nested.{AreNested}

cells_through : (p : Program) (leaf : ℕ) (l : Leaf) → slice_get p.leaves leaf ≡ Some l → cells_of p leaf ≡ l.cells
cells_through p leaf l is = rw (is, cells_of)

module _ (s : Source) (keys : List (List ℕ)) (nodes : Nodes) (r : Roots) (p : Program)
    (a : IsAssembled s keys nodes r p) (roots : HasRoots s keys nodes r) (same : length keys ≡ length s.spec.variables) where
  -- a variable and its leaf have one number
  leaves_agree : (leaf v : ℕ) (l : Leaf) (var : Var) → slice_get p.leaves leaf ≡ Some l → slice_get p.vars v ≡ Some var → (l.var.0 ≡ v) ↔ ((var.«from».0 ≤ leaf) × (leaf < var.«from».0 + var.count))
  leaves_agree leaf v l var is is' =
      let row = entry_of (low_leaf s.spec.«package») s.spec.variables leaf l (sym (ap (λ rows. slice_get rows leaf) a.leaves) ∙ is) in
      let other = entry_of (low_var s.spec.«package») s.spec.variables v var (sym (ap (λ rows. slice_get rows v) a.vars) ∙ is') in
      rw (row.1, other.1) (λ e. (omega arith, omega arith), λ h. omega arith)

  scalar : (leaf : ℕ) → leaf < length keys → cells_of p leaf ≡ 1
  scalar leaf l =
      let row = entry_here (low_leaf s.spec.«package») s.spec.variables leaf (omega arith) in
      cells_through p leaf (low_leaf s.spec.«package» leaf row.0) (ap (λ rows. slice_get rows leaf) a.leaves ∙ row.1)

  -- the elaboration of the spec declares the variables
  fresh : (leaf : ℕ) → leaf < length keys → IsDeclared p (elaboration s.spec.«package» s.spec.«package» r.spec true) leaf
  fresh leaf l =
      let row = entry_here (low_leaf s.spec.«package») s.spec.variables leaf (omega arith) in
      let var = entry_here (low_var s.spec.«package») s.spec.variables leaf (omega arith) in
      rw (ap (λ rows. slice_get rows leaf) a.leaves ∙ row.1, ap (λ rows. slice_get rows leaf) a.vars ∙ var.1)
      (record { kind = refl; home = (record { 0 = 0 }, (refl, refl)); part = refl })

  writes : (body : Body) → body.formals ≡ [] → (leaf : ℕ) → leaf < length keys → MayWrite p body leaf
  writes body none leaf l = rw none (All-nil _)

  no_formals : All (λ (body : Body). body.formals ≡ []) p.bodies
  no_formals = three_bodies s keys nodes r p a roots same (λ (body : Body). body.formals ≡ []) refl refl refl

  -- the nodes of the program are those
  in_program : (n : StmtNo) (c : Code) → code_of nodes.exprs nodes.stmts n ≡ c → code_of p.exprs p.stmts n ≡ c
  in_program n c e = rw (a.exprs, a.stmts) e

  proper_code : AreNested s.body.procedure.lines → Each (KnownLine keys) s.body.procedure.lines
      → All (λ (body : Body). IsProperList p body (code_of p.exprs p.stmts body.code)) p.bodies
  proper_code nested known =
      let spec = elaboration s.spec.«package» s.spec.«package» r.spec true in
      let procedure = low_procedure keys s r.procedure in
      three_bodies s keys nodes r p a roots same (λ (body : Body). IsProperList p body (code_of p.exprs p.stmts body.code))
      (subst (λ c. IsProperList p spec c) (sym (in_program r.spec (low_variables 0 s.spec.variables) roots.spec_code)) (variables_proper keys p spec scalar (writes spec refl) fresh 0 s.spec.variables (omega arith)))
      (rw (a.exprs, a.stmts, roots.body_code) tt)
      (
      subst (λ c. IsProperList p procedure c) (sym (in_program r.procedure (low_statements keys nested.statements) (procedure_code s keys nodes r p a roots same nested)))
      (statements_proper keys p procedure scalar (writes procedure refl) nested.statements (statements_known keys nested.statements s.body.procedure.lines nested.written known))
      )

  pub proper : AreNested s.body.procedure.lines → Each (KnownLine keys) s.body.procedure.lines → IsProper p
  proper nested known = record {
    leaves = leaves_agree;
    roots = λ b body is k. All-slice_get (λ (x : Body). x.formals ≡ []) p.bodies b body no_formals is;
    code = λ b body is. All-slice_get (λ (x : Body). IsProperList p x (code_of p.exprs p.stmts x.code)) p.bodies b body (proper_code nested known) is;
  }
