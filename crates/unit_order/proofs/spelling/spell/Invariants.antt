use Rattle.std.proofs.Common.{◌≡◌, ◌++◌}
use Rattle.std.specs.Prelude.{reverse}
use Rattle.ada_forms.specs.Forms.{expr_of}
use Rattle.unit_order.specs.Withs.{begins, written}
use Rattle.unit_order.proofs.spelling.spell.Given as goal

abbrev pub invariant-loop-name : goal.invariant-loop-name
invariant-loop-name l = record {
  text : written (expr_of l.units.exprs l.fn.e) ≡ written (expr_of l.units.exprs l.here) ++ reverse l.text.items;
  begins : begins (expr_of l.units.exprs l.fn.e) ≡ begins (expr_of l.units.exprs l.here);
}

abbrev pub decreases-loop-name : goal.decreases-loop-name
decreases-loop-name l = l.here.0
