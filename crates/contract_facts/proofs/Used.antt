-- The leaves of a contract that are used so, part by part.
use Rattle.std.proofs.Common.{ℕ, ◌↔◌, ◌⊎◌, inl, inr, Bool, List}
use Rattle.core_form.specs.declared.contract.Contract.{Contract}
use Rattle.core_form.specs.declared.program.Body.{Body}
use Rattle.core_form.specs.declared.program.Program.{Program}
use Rattle.flow_bits.specs.Sets.{Tells, either}
use Rattle.callee_view.specs.Seen.{IsFormalLeaf, IsGlobalLeaf}
use Rattle.contract_facts.specs.declared.uses.Use.{Use}
use Rattle.contract_facts.specs.Uses.{UsedBeside, UsedBy, formal_test, mode_test}

-- leaves of a Global and of formals, and the others, are all that are used so
parts : (p : Program) (b : ℕ) (body : Body) (c : Contract) (wanted : Use) (v : ℕ)
    → (IsGlobalLeaf p (mode_test wanted) c.globals v ⊎ (IsFormalLeaf p (formal_test wanted) body.formals v ⊎ UsedBeside p b body c wanted v)) ↔ UsedBy p b body c wanted v
parts p b body c Use.Reads v = (λ h. h, λ h. h)
parts p b body c Use.Writes v = (λ h. h, λ h. h)
parts p b body c Use.Loses v = (λ h. h, λ h. h)
parts p b body c Use.Names v = (
  λ h. elim h [
    | inl g ↦ inl (inl g)
    | inr (inl f) ↦ inr (inl f)
    | inr (inr (inl x)) ↦ inr (inr x)
    | inr (inr (inr d)) ↦ inl (inr d)
  ],
  λ h. elim h [
    | inl (inl g) ↦ inl g
    | inl (inr d) ↦ inr (inr (inr d))
    | inr (inl f) ↦ inr (inl f)
    | inr (inr x) ↦ inr (inr (inl x))
  ],
)

module _ (p : Program) (b : ℕ) (body : Body) (c : Contract) (wanted : Use) (none globals formals all : List Bool) where
  pub used : Tells none (λ v. ⊥) → Tells globals (either none (IsGlobalLeaf p (mode_test wanted) c.globals)) → Tells formals (either globals (IsFormalLeaf p (formal_test wanted) body.formals))
      → Tells all (either formals (UsedBeside p b body c wanted)) → Tells all (UsedBy p b body c wanted)
  used empty g f a v = (
    λ h. (parts p b body c wanted v).0 (elim ((a v).0 h) [
      | inr x ↦ inr (inr x)
      | inl y ↦ (elim ((f v).0 y) [
        | inr x ↦ inr (inl x)
        | inl z ↦ (elim ((g v).0 z) [ inl n ↦ absurd ((empty v).0 n) | inr x ↦ inl x ])
      ])
    ]),
    λ h. elim ((parts p b body c wanted v).1 h) [
      | inl x ↦ (a v).1 (inl ((f v).1 (inl ((g v).1 (inr x)))))
      | inr (inl x) ↦ (a v).1 (inl ((f v).1 (inr x)))
      | inr (inr x) ↦ (a v).1 (inr x)
    ],
  )
