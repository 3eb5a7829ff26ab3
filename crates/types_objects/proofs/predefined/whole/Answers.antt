use Rattle.std.proofs.Common.{◌≡◌, IfOk, pos, subst}
use Rattle.std.proofs.lemmas.Int.{to_z-of_z}
use Rattle.std.specs.Int.{w128}
use Rattle.types_objects.specs.Predefined.{scalar}
use Rattle.types_objects.specs.declared.types.TypeForm.TheVariants as forms
use Rattle.types_objects.proofs.predefined.whole.Goals as goal

pub returns : goal.returns
returns c =
    subst (λ z. IfOk c.scalar.result (λ x. x ≡ scalar c.args.name.now (forms.Signed z (pos 2147483647)))) (to_z-of_z w128 c.args.low c.ranges.low) c.scalar.ensures
