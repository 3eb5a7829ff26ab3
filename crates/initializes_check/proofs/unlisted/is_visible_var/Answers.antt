use Rattle.std.proofs.Common.{rules, ◌≡◌, ◌↔◌, Some, subst}
use Rattle.std.specs.Prelude.{IsTrue, slice_get}
use Rattle.core_form.specs.declared.program.Object.{Object}
use Rattle.used_modes.specs.Added.{SomeOf}
use Rattle.initializes_check.specs.InitializesCheck.{IsObjectVar}
use Rattle.initializes_check.proofs.Shown.{shown_var}
use Rattle.initializes_check.proofs.unlisted.is_visible_var.Goals as goal

pub returns-in-Some : goal.returns-in-Some
returns-in-Some c =
    let is : slice_get c.args.program.now.vars c.args.number.0 ≡ Some c.in-Some.var.now = cc (c.in-Some.ensures.value) in
    let object : IsTrue c.is_object_var.result ↔ IsObjectVar c.args.program.now c.args.number.0 = subst (λ xs. IsTrue c.is_object_var.result
    ↔ SomeOf (λ (o : Object). o.var.0 ≡ c.args.number.0) xs) c.as_slice.ensures c.is_object_var.ensures in
    shown_var c.args.program.now c.args.«package».0 c.args.number.0 c.in-Some.var.now is (c.is_shown.ensures.0 (search (
      rules,
      c.if-is_shown.true,
    ))) c.is_object_var.result object
