-- Programs with the same leaves, variables and code have the same equation for a body.
use Rattle.std.proofs.Common.{◌≡◌, ◌∙◌, ℕ, Bool, List, length, Option, Some, None, refl, ap, sym}
use Rattle.std.specs.Prelude.{slice_get, IsSomeAnd, ◌⊎◌}
use Rattle.std.proofs.Math.Path.{fun_ext}
use Rattle.core_form.specs.declared.program.Body.{Body}
use Rattle.core_form.specs.declared.program.Formal.{Formal}
use Rattle.core_form.specs.declared.program.Home.{Home}
use Rattle.core_form.specs.declared.program.Leaf.{Leaf}
use Rattle.core_form.specs.declared.program.Program.{Program}
use Rattle.core_form.specs.declared.program.Var.{Var}
use Rattle.core_form.specs.Code.{Code, code_of}
use Rattle.core_form.specs.Fine.{home_of}
use Rattle.flow_relations.specs.Equation.{IsLibrary, IsPassed, clock_among, code_at_body, code_of_body, equation, is_unset_leaf, is_unset_var, names_of, no_calls, opened, starts_unset, whole_code}
use Rattle.flow_relations.specs.Flow.{Summary, flow, row_of}
use Rattle.flow_relations.proofs.Frames.{whole_is}

-- the equation, of all that it looks at
abbrev summary_of : ℕ → (ℕ → Option Home) → ℕ → ℕ → Code → Code → Summary
summary_of b homes void clock code whole =
    row_of (λ v. (IsSomeAnd (homes v) IsLibrary × names_of clock code v) ⊎ IsSomeAnd (homes v) (IsPassed b)) (flow void clock no_calls whole)

module _ (p q : Program) (leaves : p.leaves ≡ q.leaves) (vars : p.vars ≡ q.vars) where
  home_same : (v : ℕ) → home_of p v ≡ home_of q v
  home_same v =
      ap (λ (x : List Leaf). home_of (record p { leaves = x }) v) leaves
      ∙ ap (λ (x : List Var). home_of (record p { leaves = q.leaves; vars = x }) v) vars

  unset_leaf_same : (b : ℕ) (formals : List Formal) (o : Option Leaf) → is_unset_leaf p b formals o ≡ is_unset_leaf q b formals o
  unset_leaf_same b formals None = refl
  unset_leaf_same b formals (Some leaf) = ap (λ (x : List Var). is_unset_var b formals leaf.var.0 (slice_get x leaf.var.0)) vars

  unset_same : (b : ℕ) (formals : List Formal) (v : ℕ) → starts_unset p b formals v ≡ starts_unset q b formals v
  unset_same b formals v =
      ap (λ (x : List Leaf). is_unset_leaf p b formals (slice_get x v)) leaves
      ∙ unset_leaf_same b formals (slice_get q.leaves v)

  opened_same : (b : ℕ) (formals : List Formal) (k l : Code) → k ≡ l → opened (starts_unset p b formals) (length p.leaves) 0 k ≡ opened (starts_unset q b formals) (length q.leaves) 0 l
  opened_same b formals k l code =
      ap (λ (f : ℕ → Bool). opened f (length p.leaves) 0 k) (fun_ext (λ v. unset_same b formals v))
      ∙ ap (λ (x : List Leaf). opened (starts_unset q b formals) (length x) 0 k) leaves
      ∙ ap (opened (starts_unset q b formals) (length q.leaves) 0) code

  -- the bodies have the same formals and the same code
  pub equation_same : (b : ℕ) (body other : Body) → slice_get p.bodies b ≡ Some body → slice_get q.bodies b ≡ Some other → body.formals ≡ other.formals → code_of p.exprs p.stmts body.code ≡ code_of q.exprs q.stmts other.code → equation p b ≡ equation q b
  equation_same b body other at at_other formals code =
      let tree : code_of_body p b ≡ code_of_body q b = ap (code_at_body p) at ∙ code ∙ sym (ap (code_at_body q) at_other) in
      let whole : whole_code p b ≡ whole_code q b
      = whole_is p b body at
      ∙ ap (λ (fs : List Formal). opened (starts_unset p b fs) (length p.leaves) 0 (code_of p.exprs p.stmts body.code)) formals
      ∙ opened_same b other.formals (code_of p.exprs p.stmts body.code) (code_of q.exprs q.stmts other.code) code
      ∙ sym (whole_is q b other at_other) in
      ap (λ (f : ℕ → Option Home). summary_of b f (length p.leaves) (clock_among p.vars) (code_of_body p b) (whole_code p b)) (fun_ext home_same)
      ∙ ap (λ (x : List Leaf). summary_of b (home_of q) (length x) (clock_among p.vars) (code_of_body p b) (whole_code p b)) leaves
      ∙ ap (λ (x : List Var). summary_of b (home_of q) (length q.leaves) (clock_among x) (code_of_body p b) (whole_code p b)) vars
      ∙ ap (λ (x : Code). summary_of b (home_of q) (length q.leaves) (clock_among q.vars) x (whole_code p b)) tree
      ∙ ap (summary_of b (home_of q) (length q.leaves) (clock_among q.vars) (code_of_body q b)) whole
