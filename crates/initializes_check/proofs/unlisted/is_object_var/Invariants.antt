use Rattle.std.proofs.Common.{◌≡◌, ◌↔◌, drop}
use Rattle.core_form.specs.declared.program.Object.{Object}
use Rattle.used_modes.specs.Added.{SomeOf}
use Rattle.initializes_check.proofs.unlisted.is_object_var.Given as goal

abbrev pub invariant-loop-object : goal.invariant-loop-object
invariant-loop-object l = SomeOf (λ (object : Object). object.var.0 ≡ l.var.0) (drop l.object-index l.objects) ↔ SomeOf (λ (object : Object). object.var.0 ≡ l.var.0) l.objects
