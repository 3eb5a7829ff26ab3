use Rattle.core_form.specs.declared.program.InitialItem.{InitialItem}
use Rattle.flow_bits.specs.Sets.{Has}
use Rattle.spark_messages.specs.declared.messages.Message.{Message}
use Rattle.used_modes.proofs.Adding.{SoFar}
use Rattle.initializes_check.specs.InitializesCheck.{IsNotInitialized}
use Rattle.initializes_check.proofs.initial.append_unassigned.Given as goal

abbrev pub invariant-loop-listed : goal.invariant-loop-listed
invariant-loop-listed l = SoFar l.initial.list l.list (λ (i : InitialItem) (m : Message). IsNotInitialized l.program (Has l.unset) i m) l.items l.listed-index
