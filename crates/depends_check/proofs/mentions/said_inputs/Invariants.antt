use Rattle.std.proofs.Common.{[]}
use Rattle.core_form.specs.declared.contract.DependsPair.{DependsPair}
use Rattle.core_form.specs.declared.program.Item.{Item}
use Rattle.depends_check.specs.DependsCheck.{IsSaid}
use Rattle.used_modes.proofs.Adding.{SoFar}
use Rattle.depends_check.proofs.mentions.said_inputs.Given as goal

abbrev pub invariant-loop-pair : goal.invariant-loop-pair
invariant-loop-pair l = SoFar [] l.items (λ (pair : DependsPair) (i : Item). IsSaid l.program l.output pair i) l.pairs l.pair-index
