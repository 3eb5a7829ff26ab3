use Rattle.std.proofs.Common.{◌≡◌, drop, map}
use Rattle.ada_forms.specs.Forms.{expr_of}
use Rattle.part_slots.specs.Records.{nothing_taken}
use Rattle.expr_rules.specs.Kept.{taken_of}
use Rattle.expr_rules.specs.Aggregates.{associations_found}
use Rattle.name_findings.specs.Findings.{add_all}
use Rattle.expr_rules.proofs.components.refuse_components.Given as goal

abbrev pub invariant-loop-pair : goal.invariant-loop-pair
invariant-loop-pair l =
    add_all l.found (associations_found l.tables l.fields l.at (taken_of l.taken) (map (expr_of l.units.exprs) (drop l.pair-index l.pairs))) ≡ add_all l.fn.found (associations_found l.tables l.fields l.at nothing_taken (map (expr_of l.units.exprs) l.pairs))
