use Rattle.std.proofs.Common.{◌≡◌, IfOk, ◌∙◌, refl, codes, subst}
use Rattle.types_objects.specs.Predefined.{scalar}
use Rattle.types_objects.specs.declared.types.TypeForm.TheVariants as forms
use Rattle.types_objects.proofs.Opening.{cons_same}
use Rattle.types_objects.proofs.predefined.boolean.Goals as goal

pub returns : goal.returns
returns c =
    let literals = c.from_vec.ensures ∙ (c.in_ok-literals.ensures.items ∙ cons_same c.in_ok-named.ensures (cons_same c.in_ok-named-2.ensures refl)) in
    subst (λ ls. IfOk c.scalar.result (λ x. x ≡ scalar (codes "Boolean") (forms.Enumeration ls))) literals c.scalar.ensures
