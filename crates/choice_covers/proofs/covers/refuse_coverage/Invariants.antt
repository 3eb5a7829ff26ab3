use Rattle.std.proofs.Common.{◌≡◌, drop, take}
use Rattle.name_findings.specs.Findings.{add_all}
use Rattle.choice_covers.specs.Covers.{cover_of, doubled_found, nothing_covered}
use Rattle.choice_covers.specs.Kept.{Stands}
use Rattle.choice_covers.proofs.covers.refuse_coverage.Given as goal

abbrev pub invariant-loop-choice : goal.invariant-loop-choice
invariant-loop-choice l = Stands l.covered (cover_of nothing_covered (take l.choice-index l.choices))
    × (add_all l.found (doubled_found l.code (cover_of nothing_covered (take l.choice-index l.choices)) (drop l.choice-index l.choices))
    ≡ add_all l.fn.found (doubled_found l.code nothing_covered l.choices))
