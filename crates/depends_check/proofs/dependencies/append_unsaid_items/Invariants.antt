use Rattle.core_form.specs.declared.program.Item.{Item}
use Rattle.spark_messages.specs.declared.messages.Message.{Message}
use Rattle.std.specs.List.{Contains}
use Rattle.depends_check.specs.DependsCheck.{TellsMissing}
use Rattle.used_modes.proofs.Adding.{SoFar}
use Rattle.depends_check.proofs.dependencies.append_unsaid_items.Given as goal

abbrev pub invariant-loop-item : goal.invariant-loop-item
invariant-loop-item l = SoFar l.initial.list l.list (λ (i : Item) (m : Message). (Contains l.said i → ⊥) × TellsMissing l.program l.body
    l.place l.output i m) l.used l.item-index
