-- A variable of the visible part is one that is to be listed, unless it is an object.
use Rattle.std.proofs.Common.{◌≡◌, ◌↔◌, ℕ, Bool, true, false, Some, refl, sym, subst}
use Rattle.std.specs.Prelude.{IsSomeAnd, IsTrue, not, slice_get}
use Rattle.core_form.specs.declared.program.Part.TheVariants as parts
use Rattle.core_form.specs.declared.program.Program.{Program}
use Rattle.core_form.specs.declared.program.Var.{Var}
use Rattle.initializes_check.specs.InitializesCheck.{IsHomeIn, IsObjectVar, IsOfNoObject, IsVisibleVar}

not_both : (r : Bool) → IsTrue (not r) → IsTrue r → ⊥
not_both true h k = absurd cc
not_both false h k = absurd cc

not_then : (r : Bool) → (IsTrue r → ⊥) → IsTrue (not r)
not_then true f = absurd (f refl)
not_then false f = refl

pub shown_var : (p : Program) (k n : ℕ) (var : Var) → slice_get p.vars n ≡ Some var
    → (IsHomeIn k var.home × ((var.part ≡ parts.Visible) × IsOfNoObject var.sharing))
    → (r : Bool) → (IsTrue r ↔ IsObjectVar p n)
    → IsTrue (not r) ↔ IsSomeAnd (slice_get p.vars n) (λ v. IsVisibleVar p k n v.home v.part v.sharing)
shown_var p k n var is shown r object = (
  λ t. subst (λ o. IsSomeAnd o (λ v. IsVisibleVar p k n v.home v.part v.sharing)) (sym is) (record {
    is_in = shown.0;
    is_visible = shown.1.0;
    no_component = shown.1.1;
    no_object = λ h. not_both r t (object.1 h);
  }),
  λ h.
      let v : IsVisibleVar p k n var.home var.part var.sharing = subst (λ o. IsSomeAnd o (λ v. IsVisibleVar p k n v.home v.part v.sharing)) is h in
      not_then r (λ t. v.no_object (object.0 t)),
)
