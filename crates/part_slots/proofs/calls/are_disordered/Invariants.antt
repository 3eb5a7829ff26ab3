use Rattle.std.proofs.Common.{◌≡◌, false, map, drop}
use Rattle.ada_forms.specs.Forms.{expr_of}
use Rattle.part_slots.specs.Calls.{is_disordered}
use Rattle.part_slots.proofs.calls.are_disordered.Given as goal

abbrev pub invariant-loop-argument : goal.invariant-loop-argument
invariant-loop-argument l =
    is_disordered l.is_behind_named (map (expr_of l.units.exprs) (drop l.argument-index l.arguments))
    ≡ is_disordered false (map (expr_of l.units.exprs) l.arguments)
