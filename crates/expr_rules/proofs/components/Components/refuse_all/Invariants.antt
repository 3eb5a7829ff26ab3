use Rattle.std.proofs.Common.{◌≡◌, drop, map}
use Rattle.ada_forms.specs.Forms.{expr_of}
use Rattle.part_slots.specs.Records.{taken_by}
use Rattle.expr_rules.specs.Kept.{taken_of}
use Rattle.expr_rules.specs.Aggregates.{components_found}
use Rattle.name_findings.specs.Findings.{add_all}
use Rattle.expr_rules.proofs.components.Components.refuse_all.Given as goal

abbrev pub invariant-loop-choice : goal.invariant-loop-choice
invariant-loop-choice l =
    (taken_by l.tables l.fields (taken_of l.self) (map (expr_of l.units.exprs) (drop l.choice-index l.choices)) ≡ taken_by l.tables l.fields (taken_of l.fn.self) (map (expr_of l.units.exprs) l.choices))
    × (add_all l.found (components_found l.tables l.fields (taken_of l.self) (map (expr_of l.units.exprs) (drop l.choice-index l.choices))) ≡ add_all l.fn.found (components_found l.tables l.fields (taken_of l.fn.self) (map (expr_of l.units.exprs) l.choices)))
