use Rattle.std.proofs.Common.{◌≡◌, map, take}
use Rattle.ada_forms.specs.Forms.{expr_of}
use Rattle.unit_order.specs.Withs.{withs_of}
use Rattle.unit_order.proofs.withs.with_names.Given as goal

abbrev pub invariant-loop-d : goal.invariant-loop-d
invariant-loop-d l = map (expr_of l.units.exprs) l.names.items ≡ withs_of l.units (take l.d-index l.decls)
