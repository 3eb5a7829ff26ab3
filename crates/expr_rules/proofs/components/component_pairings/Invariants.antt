use Rattle.std.proofs.Common.{◌≡◌, ◌++◌, drop, map}
use Rattle.ada_forms.specs.Forms.{expr_of}
use Rattle.part_slots.specs.Records.{component_pairings, nothing_taken}
use Rattle.expr_rules.specs.Kept.{taken_of}
use Rattle.expr_rules.proofs.components.component_pairings.Given as goal

abbrev pub invariant-loop-pair : goal.invariant-loop-pair
invariant-loop-pair l =
    l.pairings ++ component_pairings l.tables l.fields (taken_of l.taken) (map (expr_of l.units.exprs) (drop l.pair-index l.pairs)) ≡ component_pairings l.tables l.fields nothing_taken (map (expr_of l.units.exprs) l.pairs)
