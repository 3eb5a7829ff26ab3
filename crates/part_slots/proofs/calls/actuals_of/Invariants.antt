use Rattle.std.proofs.Common.{◌≡◌, ◌||◌, ◌++◌, [], map, drop}
use Rattle.ada_forms.specs.Forms.{expr_of}
use Rattle.part_slots.specs.Calls.{actual_slots, has_stray}
use Rattle.part_slots.proofs.calls.actuals_of.Given as goal

abbrev pub invariant-loop-k : goal.invariant-loop-k
invariant-loop-k l =
    (l.slots ++ actual_slots l.tables l.formals l.k l.taken.keys (map (expr_of l.units.exprs) (drop l.k l.arguments))
    ≡ actual_slots l.tables l.formals 0 [] (map (expr_of l.units.exprs) l.arguments))
    × ((l.has_stray || has_stray l.tables l.formals l.k l.taken.keys (map (expr_of l.units.exprs) (drop l.k l.arguments)))
    ≡ has_stray l.tables l.formals 0 [] (map (expr_of l.units.exprs) l.arguments))
