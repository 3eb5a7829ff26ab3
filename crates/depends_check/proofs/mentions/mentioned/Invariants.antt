use Rattle.std.proofs.Common.{◌≡◌, Some, []}
use Rattle.core_form.specs.declared.contract.DependsPair.{DependsPair}
use Rattle.core_form.specs.declared.program.Item.{Item}
use Rattle.depends_check.specs.DependsCheck.{mention}
use Rattle.used_modes.proofs.Adding.{SoFar}
use Rattle.depends_check.proofs.mentions.mentioned.Given as goal

abbrev pub invariant-loop-pair : goal.invariant-loop-pair
invariant-loop-pair l = SoFar [] l.items (λ (pair : DependsPair) (i : Item). mention l.program l.side pair ≡ Some i) l.pairs l.pair-index
