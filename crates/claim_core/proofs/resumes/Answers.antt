use Rattle.claim_core.specs.System.{system_of}
use Rattle.claim_core.specs.Machine.{resumed}
use Rattle.claim_core.proofs.Keeps as keeps
use Rattle.claim_core.proofs.Systems.{rules_system}
use Rattle.claim_core.proofs.resumes.Goals as goal

pub returns-clause-inv : goal.returns-clause-inv
returns-clause-inv c r is rows dirty within each n events d run =
    let laws = rules_system r is in
    keeps.all_keep (system_of r) laws n events (resumed rows dirty) d (keeps.resumes (system_of r) laws rows dirty within each) run

pub returns-clause-rest : goal.returns-clause-rest
returns-clause-rest c r is rows dirty within each n events d run rest =
    let laws = rules_system r is in
    let inv = keeps.all_keep (system_of r) laws n events (resumed rows dirty) d (keeps.resumes (system_of r) laws rows dirty within each) run in
    keeps.at_rest (system_of r) laws d inv rest.clean rest.free rest.paid
