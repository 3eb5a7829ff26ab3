use Rattle.claim_core.specs.System.{system_of}
use Rattle.claim_core.proofs.Systems.{rules_system, least_solves, least_first, solves_all}
use Rattle.claim_core.proofs.least_rows.Goals as goal

pub returns-clause-solves : goal.returns-clause-solves
returns-clause-solves c r is rows least = least_solves (system_of r) (rules_system r is) rows least

pub returns-clause-first : goal.returns-clause-first
returns-clause-first c r is rows other least solves x set =
    let laws = rules_system r is in
    least_first (system_of r) laws other (solves_all (system_of r) laws other solves) x ((least x).0 set)

pub returns-clause-only : goal.returns-clause-only
returns-clause-only c r is rows other least solves within x =
    let laws = rules_system r is in
    (λ set. (least x).0 (within x set), least_first (system_of r) laws other (solves_all (system_of r) laws other solves) x)
