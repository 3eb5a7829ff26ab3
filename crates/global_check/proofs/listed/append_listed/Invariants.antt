use Rattle.core_form.specs.declared.contract.GlobalItem.{GlobalItem}
use Rattle.spark_messages.specs.declared.messages.Message.{Message}
use Rattle.used_modes.specs.UsedModes.{row_of}
use Rattle.used_modes.proofs.Adding.{SoFar}
use Rattle.global_check.specs.GlobalCheck.{IsListedWrong}
use Rattle.global_check.proofs.listed.append_listed.Given as goal

abbrev pub invariant-loop-global : goal.invariant-loop-global
invariant-loop-global l = SoFar l.initial.list l.list (λ (g : GlobalItem) (m : Message). IsListedWrong l.program (row_of l.rows
    l.number.0) l.body g m) l.globals l.global-index
