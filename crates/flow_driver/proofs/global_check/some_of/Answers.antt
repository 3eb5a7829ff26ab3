use Rattle.std.proofs.Common.{◌∙◌, sym}
use Rattle.flow_driver.specs.GlobalCheck.{has}
use Rattle.flow_driver.proofs.Leaves.{one_passed}
use Rattle.flow_driver.proofs.global_check.some_of.Goals as goal

pub loop-i-preserved : goal.loop-i-preserved
loop-i-preserved c = one_passed (has c.args.row.now) c.args.var.now.count c.args.var.now.from.0 c.loop-i.i c.loop-i-test.true (sym c.has.ensures ∙ c.if-has.false) ∙ c.loop-i.invariant
