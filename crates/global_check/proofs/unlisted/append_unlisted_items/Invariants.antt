use Rattle.core_form.specs.declared.program.Item.{Item}
use Rattle.spark_messages.specs.declared.messages.Message.{Message}
use Rattle.used_modes.specs.UsedModes.{row_of}
use Rattle.used_modes.proofs.Adding.{SoFar}
use Rattle.global_check.specs.GlobalCheck.{TellsUnlisted}
use Rattle.global_check.proofs.unlisted.append_unlisted_items.Given as goal

abbrev pub invariant-loop-item : goal.invariant-loop-item
invariant-loop-item l = SoFar l.initial.list l.list (λ (i : Item) (m : Message). TellsUnlisted l.program (row_of l.rows l.number.0)
    l.body i m) l.items l.item-index
