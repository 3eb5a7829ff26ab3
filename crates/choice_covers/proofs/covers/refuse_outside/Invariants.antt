use Rattle.std.proofs.Common.{◌≡◌, drop}
use Rattle.name_findings.specs.Findings.{add_all}
use Rattle.choice_covers.specs.Covers.{outside_found}
use Rattle.choice_covers.proofs.covers.refuse_outside.Given as goal

abbrev pub invariant-loop-choice : goal.invariant-loop-choice
invariant-loop-choice l = add_all l.found (outside_found l.bounds (drop l.choice-index l.choices)) ≡ add_all l.fn.found (outside_found l.bounds l.choices)
