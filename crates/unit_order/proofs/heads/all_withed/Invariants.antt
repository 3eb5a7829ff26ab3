use Rattle.std.proofs.Common.{◌≡◌, map, take}
use Rattle.ada_forms.specs.Forms.{expr_of}
use Rattle.unit_order.specs.Heads.{withed_by}
use Rattle.unit_order.proofs.heads.all_withed.Given as goal

abbrev pub invariant-loop-name : goal.invariant-loop-name
invariant-loop-name l = l.withs ≡ map (withed_by l.keys) (map (expr_of l.units.exprs) (take l.name-index l.names))
