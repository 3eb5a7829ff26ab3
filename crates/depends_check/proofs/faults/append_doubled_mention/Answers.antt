use Rattle.std.proofs.Common.{rules, ◌∙◌, sym}
use Rattle.std.specs.List.{Contains}
use Rattle.std.proofs.lemmas.Result.{on_ok_weaker}
use Rattle.core_form.specs.declared.program.Item.{Item}
use Rattle.spark_messages.specs.declared.messages.Message.{Message}
use Rattle.global_check.proofs.Gathered.{of_some}
use Rattle.depends_check.specs.DependsCheck.{TellsFault, mention}
use Rattle.depends_check.specs.declared.faults.Fault.{Fault}
use Rattle.depends_check.specs.declared.sides.Side.{Side}
use Rattle.depends_check.proofs.Grown.{with_fact}
use Rattle.depends_check.proofs.faults.append_doubled_mention.Goals as goal

pub returns-in-Some : goal.returns-in-Some
returns-in-Some c =
    let p = c.args.program.now in
    let body = c.args.body.now in
    let there : Contains c.args.before.now c.in-Some.item = c.has.ensures.0 (search (rules, c.if-has.true)) in
    on_ok_weaker c.append_fault.result
    (λ a. of_some (λ (o : Item) (m : Message). Contains c.args.before.now o × TellsFault p body Fault.Doubled c.args.pair.place o m)
    (mention p Side.Output c.args.pair) c.in-Some.item
    (sym c.mention.ensures ∙ c.in-Some.is) c.args.list.now c.append_fault.new.list
    (with_fact c.args.list.now c.append_fault.new.list (Contains c.args.before.now c.in-Some.item) (TellsFault p body Fault.Doubled
    c.args.pair.place c.in-Some.item) there a))
    c.append_fault.ensures
