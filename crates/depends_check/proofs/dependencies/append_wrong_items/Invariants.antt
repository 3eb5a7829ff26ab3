use Rattle.core_form.specs.declared.program.Item.{Item}
use Rattle.spark_messages.specs.declared.messages.Message.{Message}
use Rattle.depends_check.specs.DependsCheck.{IsUsedPair, IsWrongPair, aspect_of, pairs_of}
use Rattle.used_modes.proofs.Adding.{SoFar}
use Rattle.depends_check.proofs.dependencies.append_wrong_items.Given as goal

abbrev pub invariant-loop-item : goal.invariant-loop-item
invariant-loop-item l = SoFar l.initial.list l.list (λ (o : Item) (m : Message). IsWrongPair l.program l.body (aspect_of l.contract)
    (pairs_of l.contract) o (IsUsedPair l.program l.rows l.number.0 l.body l.contract o) m) l.items l.item-index
