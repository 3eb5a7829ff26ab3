use Rattle.claim_core.specs.System.{system_of}
use Rattle.claim_core.proofs.Bounds as bounds
use Rattle.claim_core.proofs.Systems.{rules_system}
use Rattle.claim_core.proofs.claims_bounded.Goals as goal

pub returns : goal.returns
returns c r is n events d accepted = bounds.bounded (system_of r) (rules_system r is) n events d accepted
