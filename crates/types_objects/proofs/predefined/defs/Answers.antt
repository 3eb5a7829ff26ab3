use Rattle.std.proofs.Common.{◌∙◌, refl}
use Rattle.types_objects.proofs.Opening.{cons_same}
use Rattle.types_objects.proofs.predefined.defs.Goals as goal

pub returns : goal.returns
returns c =
    c.in_ok-from_array.ensures.items
    ∙ cons_same c.in_ok-boolean.ensures (cons_same c.in_ok-whole.ensures (cons_same c.in_ok-whole-2.ensures (cons_same c.in_ok-whole-3.ensures
    (cons_same c.in_ok-scalar.ensures (cons_same c.in_ok-scalar-2.ensures refl)))))
