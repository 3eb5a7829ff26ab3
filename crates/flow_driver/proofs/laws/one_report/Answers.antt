use Rattle.flow_driver.proofs.OneReport.{one_report}
use Rattle.flow_driver.proofs.laws.one_report.Goals as goal

pub returns : goal.returns
returns c bytes r t h k = one_report bytes r t h k
