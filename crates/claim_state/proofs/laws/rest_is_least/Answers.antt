use Rattle.std.proofs.Common.{subst}
use Rattle.claim_core.specs.Machine.{opening}
use Rattle.claim_core.specs.System.{IsLeast}
use Rattle.claim_core.proofs.Keeps as keeps
use Rattle.claim_rows.proofs.Placed.{rows_tell}
use Rattle.row_equations.specs.Follow.{follows}
use Rattle.row_equations.proofs.Following as follow
use Rattle.claim_state.specs.Solving.{calls, solving}
use Rattle.claim_state.proofs.Calling.{callers, sees, solving_system}
use Rattle.claim_state.proofs.laws.rest_is_least.Goals as goal

pub returns : goal.returns
returns c p rows is n events d run rest words =
    let sys = solving p rows.layout in
    let laws = solving_system p rows.layout is in
    let inv = keeps.all_keep sys laws n events (opening sys) d (keeps.opens sys laws) run in
    rows_tell rows is.layout (calls p) (follows p rows.layout) (follow.listed p rows.layout) (sees p rows.layout is) (follow.is_finite p rows.layout)
    (callers p rows.layout is) (subst (λ w. IsLeast sys w) words (keeps.at_rest sys laws d inv rest.clean rest.free rest.paid))
