use Rattle.flow_driver.proofs.Silent.{silent_runs}
use Rattle.flow_driver.proofs.laws.clean_runs.Goals as goal

pub returns : goal.returns
returns c bytes r p h v k = silent_runs bytes r p h v k
