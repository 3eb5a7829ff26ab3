use Rattle.core_form.specs.declared.contract.GlobalItem.{GlobalItem}
use Rattle.core_form.specs.declared.program.Item.{Item}
use Rattle.depends_check.specs.DependsCheck.{IsGlobalOn}
use Rattle.used_modes.proofs.Adding.{SoFar}
use Rattle.depends_check.proofs.sides.note_globals.Given as goal

abbrev pub invariant-loop-global : goal.invariant-loop-global
invariant-loop-global l = SoFar l.initial.items l.items (λ (g : GlobalItem) (i : Item). IsGlobalOn l.program l.side g i) l.globals
    l.global-index
