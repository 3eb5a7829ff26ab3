use Rattle.spark_base.specs.declared.numbers.LeafNo.{LeafNo}
use Rattle.core_form.specs.declared.program.Item.{Item}
use Rattle.depends_check.specs.DependsCheck.{IsDecidedBy}
use Rattle.used_modes.proofs.Adding.{SoFar}
use Rattle.depends_check.proofs.used.note_deciding.Given as goal

abbrev pub invariant-loop-from : goal.invariant-loop-from
invariant-loop-from l = SoFar l.initial.items l.items (λ (from : LeafNo) (i : Item). IsDecidedBy l.program l.rows l.number.0 l.body
    l.leaf.0 from.0 i) l.leaves l.from-index
