use Rattle.core_form.specs.declared.program.TaskUnit.{TaskUnit}
use Rattle.flow_bits.specs.Sets.{Has}
use Rattle.spark_messages.specs.declared.messages.Message.{Message}
use Rattle.used_modes.proofs.Adding.{SoFar}
use Rattle.initializes_check.specs.InitializesCheck.{IsOfTask, reads_outside}
use Rattle.initializes_check.proofs.messages.append_tasks.Given as goal

abbrev pub invariant-loop-task : goal.invariant-loop-task
invariant-loop-task l = SoFar l.initial.list l.list (λ (t : TaskUnit) (m : Message). IsOfTask l.program (reads_outside l.program l.rows) (Has l.unset) t m)
    l.tasks l.task-index
