use Rattle.std.proofs.Common.{subst}
use Rattle.least_solution.specs.Rules.{follows}
use Rattle.least_solution.proofs.Rules.{rules_finite}
use Rattle.claim_core.specs.Machine.{opening}
use Rattle.claim_core.specs.System.{IsLeast}
use Rattle.claim_core.proofs.Keeps as keeps
use Rattle.claim_rows.specs.Placed.{placed}
use Rattle.claim_rows.proofs.Placed.{placed_system, rows_tell}
use Rattle.claim_rows.proofs.Ruled.{rules_listed, rules_see}
use Rattle.claim_rows.proofs.rest_tells_least.Goals as goal

pub returns : goal.returns
returns c rows is calls rules are n events d run rest words =
    let F = follows rules in
    let listed = rules_listed rows.layout calls rules are in
    let sees = rules_see rows.layout calls rules are in
    let finite = rules_finite rules in
    let laws = placed_system rows.layout is calls F listed sees finite are.callers in
    let sys = placed rows.layout calls F in
    let inv = keeps.all_keep sys laws n events (opening sys) d (keeps.opens sys laws) run in
    rows_tell rows is calls F listed sees finite are.callers
    (subst (λ w. IsLeast sys w) words (keeps.at_rest sys laws d inv rest.clean rest.free rest.paid))
