use Rattle.core_form.specs.declared.program.Item.{Item}
use Rattle.spark_messages.specs.declared.messages.Message.{Message}
use Rattle.used_modes.proofs.Adding.{SoFar}
use Rattle.global_check.specs.GlobalCheck.{TellsWritten}
use Rattle.global_check.proofs.functions.append_written_items.Given as goal

abbrev pub invariant-loop-item : goal.invariant-loop-item
invariant-loop-item l = SoFar l.initial.list l.list (λ (i : Item) (m : Message). TellsWritten l.program l.body i m) l.items l.item-index
