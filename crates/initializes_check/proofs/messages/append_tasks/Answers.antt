use Rattle.std.proofs.Common.{◌∙◌, Some, sym, ap}
use Rattle.std.proofs.lemmas.Option.{slice_get-get_or}
use Rattle.core_form.specs.declared.program.TaskUnit.{TaskUnit}
use Rattle.flow_bits.specs.Sets.{Has}
use Rattle.spark_messages.specs.declared.messages.Message.{Message}
use Rattle.used_modes.proofs.Adding.{begun, ended, one_more}
use Rattle.initializes_check.specs.InitializesCheck.{IsOfTask, reads_outside}
use Rattle.initializes_check.proofs.messages.append_tasks.Goals as goal

pub loop-task-init : goal.loop-task-init
loop-task-init c = begun (λ (t : TaskUnit) (m : Message). IsOfTask c.args.program.now (reads_outside c.args.program.now c.args.rows.now) (Has c.args.unset.now)
    t m)
    c.args.tasks.now c.args.list.now

pub loop-task-preserved : goal.loop-task-preserved
loop-task-preserved c =
    one_more (λ (t : TaskUnit) (m : Message). IsOfTask c.args.program.now (reads_outside c.args.program.now c.args.rows.now) (Has
    c.args.unset.now) t m)
    c.args.tasks.now c.args.list.now c.loop-task.list c.append_task.new.list c.loop-task.task-index c.task-item.result (slice_get-get_or c.args.tasks.now
    c.loop-task.task-index c.task-item.result c.loop-task-test.true ∙ ap Some (sym c.task-item.is)) c.loop-task.invariant c.in_ok-append_task.ensures

pub returns : goal.returns
returns c = ended (λ (t : TaskUnit) (m : Message). IsOfTask c.args.program.now (reads_outside c.args.program.now c.args.rows.now) (Has c.args.unset.now)
    t m)
    c.args.tasks.now c.args.list.now c.loop-task.list c.loop-task.task-index c.loop-task-test.false c.loop-task.invariant
