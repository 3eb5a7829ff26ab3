-- The callees of a body's code, and of what it does from its beginning on.
use Rattle.std.proofs.Common.{◌≡◌, ℕ, zero, suc, ◌<◌, inl, inr, Bool, true, false, cond, Option, Some, None, refl, sym, subst}
use Rattle.std.specs.Prelude.{IsSomeAnd, length, slice_get}
use Rattle.std.proofs.lemmas.Option.{get_or_from_slice_get}
use Rattle.core_form.specs.declared.program.Body.{Body}
use Rattle.core_form.specs.declared.program.Program.{Program}
use Rattle.core_form.specs.Code.{Code, Skip, Then, Assign, Clear, Branch, Repeat, Exit, Called, Guard, Delay, ReadClock, Stop, code_of}
use Rattle.core_form.specs.Fine.{IsWellFormed}
use Rattle.call_flow.specs.Calls.{IsCalled}
use Rattle.body_calls.specs.Callees.{Calls, HasCall}
use Rattle.flow_relations.specs.Equation.{clock_among, code_at_body, code_of_body, names_of, opened, starts_unset, whole_at, whole_code}
use Rattle.flow_relations.specs.Framing.{IsFrameLeaf}
use Rattle.flow_relations.proofs.Framings.{opened_names, unset_own}

has_call : (c : ℕ) (a : Code) → IsCalled c a → HasCall a c
has_call c Skip h = h
has_call c (Then a b) h = elim h [ inl x ↦ inl (has_call c a x) | inr x ↦ inr (has_call c b x) ]
has_call c (Assign to e at) h = h
has_call c (Clear leaf) h = h
has_call c (Branch e a b) h = elim h [ inl x ↦ inl (has_call c a x) | inr x ↦ inr (has_call c b x) ]
has_call c (Repeat a) h = has_call c a h
has_call c (Exit o) h = h
has_call c (Called b actuals at) h = sym h
has_call c (Guard o barrier a) h = has_call c a h
has_call c (Delay e) h = h
has_call c (ReadClock to) h = h
has_call c Stop h = h

module _ (p : Program) (b : ℕ) where
  -- what the code calls, the body calls
  pub code_calls : (c : ℕ) → IsCalled c (code_of_body p b) → Calls p b c
  code_calls c h = cases (slice_get p.bodies b) h
    where
      cases : (o : Option Body) → IsCalled c (code_at_body p o) → IsSomeAnd o (λ body. HasCall (code_of p.exprs p.stmts body.code) c)
      cases None h = h
      cases (Some body) h = has_call c (code_of p.exprs p.stmts body.code) h

  -- where the body begins, nothing is called
  opened_calls : (c : ℕ) (unset : ℕ → Bool) (n first : ℕ) (code : Code) → IsCalled c (opened unset n first code) → IsCalled c code
  opened_calls c unset zero first code h = h
  opened_calls c unset (suc n) first code h = cases (unset first) (opened_calls c unset n (suc first) code) h
    where
      cases : (u : Bool) → (IsCalled c (opened unset n (suc first) code) → IsCalled c code)
          → IsCalled c (cond u (Then (Clear first) (opened unset n (suc first) code)) (opened unset n (suc first) code)) → IsCalled c code
      cases true f (inl x) = absurd x
      cases true f (inr x) = f x
      cases false f x = f x

  pub whole_calls : (c : ℕ) → IsCalled c (whole_code p b) → Calls p b c
  whole_calls c h = code_calls c (cases (slice_get p.bodies b) h)
    where
      cases : (o : Option Body) → IsCalled c (whole_at p b o) → IsCalled c (code_at_body p o)
      cases None h = h
      cases (Some body) h = opened_calls c (starts_unset p b body.formals) (length p.leaves) 0 (code_of p.exprs p.stmts body.code) h

  -- the whole code names leaves of the frame alone
  pub whole_names : (v : ℕ) → names_of (clock_among p.vars) (whole_code p b) v → IsFrameLeaf p b v
  whole_names v x = cases (slice_get p.bodies b) refl x
    where
      cases : (o : Option Body) → slice_get p.bodies b ≡ o → names_of (clock_among p.vars) (whole_at p b o) v → IsFrameLeaf p b v
      cases None e y = absurd y
      cases (Some body) e y = elim (opened_names (clock_among p.vars) (starts_unset p b body.formals) (length p.leaves) 0 (code_of p.exprs p.stmts body.code) v y) [
        | inl z ↦ inl (subst (λ o. names_of (clock_among p.vars) (code_at_body p o) v) (sym e) z)
        | inr z ↦ inr (unset_own p b body.formals v z)
      ]

-- the code of a body is in range
pub code_within : (p : Program) (b : ℕ) (body : Body) → slice_get p.bodies b ≡ Some body → IsWellFormed p → b < length p.bodies → body.code.0 < length p.stmts
code_within p b body is fine l = subst (λ (x : Body). x.code.0 < length p.stmts) (get_or_from_slice_get p.bodies b body body is) (fine.bodies b body l).code
