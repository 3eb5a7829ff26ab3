use Rattle.core_form.specs.declared.program.Item.{Item}
use Rattle.spark_messages.specs.declared.messages.Message.{Message}
use Rattle.std.specs.List.{Contains}
use Rattle.depends_check.specs.DependsCheck.{TellsFault}
use Rattle.depends_check.specs.declared.faults.Fault.{Fault}
use Rattle.used_modes.proofs.Adding.{SoFar}
use Rattle.depends_check.proofs.faults.append_absent.Given as goal

abbrev pub invariant-loop-item : goal.invariant-loop-item
invariant-loop-item l = SoFar l.initial.list l.list (λ (i : Item) (m : Message). (Contains l.mentioned i → ⊥) × TellsFault l.program
    l.body (Fault.Absent l.side) l.aspect i m) l.items l.item-index
