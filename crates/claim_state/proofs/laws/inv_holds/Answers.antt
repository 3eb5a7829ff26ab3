use Rattle.claim_core.specs.Machine.{opening}
use Rattle.claim_core.proofs.Keeps as keeps
use Rattle.claim_state.specs.Solving.{solving}
use Rattle.claim_state.proofs.Calling.{solving_system}
use Rattle.claim_state.proofs.laws.inv_holds.Goals as goal

pub returns : goal.returns
returns c p l is n events d run =
    let sys = solving p l in
    let laws = solving_system p l is in
    keeps.all_keep sys laws n events (opening sys) d (keeps.opens sys laws) run
