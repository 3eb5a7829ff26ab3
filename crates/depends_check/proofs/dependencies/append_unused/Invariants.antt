use Rattle.core_form.specs.declared.contract.DependsPair.{DependsPair}
use Rattle.spark_messages.specs.declared.messages.Message.{Message}
use Rattle.std.specs.List.{Contains}
use Rattle.depends_check.specs.DependsCheck.{IsUnused}
use Rattle.used_modes.proofs.Adding.{SoFar}
use Rattle.depends_check.proofs.dependencies.append_unused.Given as goal

abbrev pub invariant-loop-pair : goal.invariant-loop-pair
invariant-loop-pair l = SoFar l.initial.list l.list (λ (pair : DependsPair) (m : Message). IsUnused l.program l.body l.output (Contains
    l.used) pair m) l.pairs l.pair-index
