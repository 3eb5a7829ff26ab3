use Rattle.std.proofs.Common.{◌≡◌}
use Rattle.core_form.specs.declared.program.Item.{Item}
use Rattle.depends_check.specs.DependsCheck.{IsResult}
use Rattle.used_modes.proofs.Adding.{SoFar}
use Rattle.depends_check.proofs.sides.note_results.Given as goal

abbrev pub invariant-loop-item : goal.invariant-loop-item
invariant-loop-item l = SoFar l.initial.items l.items (λ (j i : Item). IsResult l.program l.body.0 l.side j × (i ≡ j)) l.all l.item-index
