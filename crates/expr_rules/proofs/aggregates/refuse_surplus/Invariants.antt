use Rattle.std.proofs.Common.{◌≡◌, drop}
use Rattle.expr_rules.specs.Aggregates.{surplus_found}
use Rattle.name_findings.specs.Findings.{add_all}
use Rattle.expr_rules.proofs.aggregates.refuse_surplus.Given as goal

abbrev pub invariant-loop-place : goal.invariant-loop-place
invariant-loop-place l =
    add_all l.found (surplus_found l.range l.place (drop l.place l.starts)) ≡ add_all l.fn.found (surplus_found l.range 0 l.starts)
