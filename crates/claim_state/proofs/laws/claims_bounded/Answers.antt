use Rattle.claim_core.proofs.Bounds as bounds
use Rattle.claim_state.specs.Solving.{solving}
use Rattle.claim_state.proofs.Calling.{solving_system}
use Rattle.claim_state.proofs.laws.claims_bounded.Goals as goal

pub returns : goal.returns
returns c p l is n events d accepted = bounds.bounded (solving p l) (solving_system p l is) n events d accepted
