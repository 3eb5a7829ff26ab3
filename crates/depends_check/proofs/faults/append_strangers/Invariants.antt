use Rattle.core_form.specs.declared.contract.DependsPair.{DependsPair}
use Rattle.spark_messages.specs.declared.messages.Message.{Message}
use Rattle.std.specs.List.{Contains}
use Rattle.depends_check.specs.DependsCheck.{IsStranger}
use Rattle.used_modes.proofs.Adding.{SoFar}
use Rattle.depends_check.proofs.faults.append_strangers.Given as goal

abbrev pub invariant-loop-pair : goal.invariant-loop-pair
invariant-loop-pair l = SoFar l.initial.list l.list (λ (pair : DependsPair) (m : Message). IsStranger l.program l.body l.side (Contains
    l.items) pair m) l.pairs l.pair-index
