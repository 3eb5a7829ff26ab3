use Rattle.claim_core.specs.System.{system_of}
use Rattle.claim_core.specs.Machine.{opening}
use Rattle.claim_core.proofs.Keeps as keeps
use Rattle.claim_core.proofs.Systems.{rules_system}
use Rattle.claim_core.proofs.inv_holds.Goals as goal

pub returns : goal.returns
returns c r is n events d run =
    keeps.all_keep (system_of r) (rules_system r is) n events (opening (system_of r)) d (keeps.opens (system_of r) (rules_system r is)) run
