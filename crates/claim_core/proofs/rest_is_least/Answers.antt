use Rattle.claim_core.specs.System.{system_of}
use Rattle.claim_core.specs.Machine.{opening}
use Rattle.claim_core.proofs.Keeps as keeps
use Rattle.claim_core.proofs.Systems.{rules_system}
use Rattle.claim_core.proofs.rest_is_least.Goals as goal

pub returns : goal.returns
returns c r is n events d run rest =
    let laws = rules_system r is in
    let inv = keeps.all_keep (system_of r) laws n events (opening (system_of r)) d (keeps.opens (system_of r) laws) run in
    keeps.at_rest (system_of r) laws d inv rest.clean rest.free rest.paid
