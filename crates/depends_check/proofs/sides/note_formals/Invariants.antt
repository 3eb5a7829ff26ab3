use Rattle.core_form.specs.declared.program.Formal.{Formal}
use Rattle.core_form.specs.declared.program.Item.{Item}
use Rattle.depends_check.specs.DependsCheck.{IsFormalOn}
use Rattle.used_modes.proofs.Adding.{SoFar}
use Rattle.depends_check.proofs.sides.note_formals.Given as goal

abbrev pub invariant-loop-formal : goal.invariant-loop-formal
invariant-loop-formal l = SoFar l.initial.items l.items (λ (f : Formal) (i : Item). IsFormalOn l.side f i) l.formals l.formal-index
