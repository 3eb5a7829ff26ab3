use Rattle.std.proofs.Common.{◌≡◌, Some}
use Rattle.core_form.specs.declared.contract.DependsPair.{DependsPair}
use Rattle.core_form.specs.declared.program.Item.{Item}
use Rattle.depends_check.specs.DependsCheck.{item_at}
use Rattle.used_modes.proofs.Adding.{SoFar}
use Rattle.depends_check.proofs.mentions.note_outputs.Given as goal

abbrev pub invariant-loop-pair : goal.invariant-loop-pair
invariant-loop-pair l = SoFar l.initial.items l.items (λ (pair : DependsPair) (o : Item). item_at l.program pair.output ≡ Some o) l.pairs
    l.pair-index
