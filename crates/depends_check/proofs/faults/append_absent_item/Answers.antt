use Rattle.std.specs.List.{Contains}
use Rattle.std.proofs.lemmas.Bool.{both_ways}
use Rattle.std.proofs.lemmas.Result.{on_ok_weaker}
use Rattle.depends_check.specs.DependsCheck.{TellsFault}
use Rattle.depends_check.specs.declared.faults.Fault.{Fault}
use Rattle.depends_check.proofs.Grown.{with_fact}
use Rattle.depends_check.proofs.faults.append_absent_item.Goals as goal

pub returns : goal.returns
returns c =
    let none : Contains c.args.mentioned.now c.args.item → ⊥ = λ h. both_ways c.has.result c.if-has.false (c.has.ensures.1 h) in
    on_ok_weaker c.append_fault.result (λ a. with_fact c.args.list.now c.append_fault.new.list (Contains c.args.mentioned.now c.args.item
    → ⊥)
    (TellsFault c.args.program.now c.args.body.now (Fault.Absent c.args.side) c.args.aspect c.args.item) none a) c.append_fault.ensures
