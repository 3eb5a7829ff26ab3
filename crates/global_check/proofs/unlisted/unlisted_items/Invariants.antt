use Rattle.std.proofs.Common.{[]}
use Rattle.spark_base.specs.declared.numbers.LeafNo.{LeafNo}
use Rattle.core_form.specs.declared.program.Item.{Item}
use Rattle.used_modes.specs.UsedModes.{row_of}
use Rattle.used_modes.proofs.Adding.{SoFar}
use Rattle.global_check.specs.GlobalCheck.{IsMissing, IsUsedAs}
use Rattle.global_check.proofs.unlisted.unlisted_items.Given as goal

abbrev pub invariant-loop-leaf : goal.invariant-loop-leaf
invariant-loop-leaf l = SoFar [] l.items
    (λ (leaf : LeafNo) (i : Item). IsUsedAs l.program (row_of l.rows l.number.0) l.body leaf.0 i × IsMissing l.program l.contract.globals
    i) l.leaves l.leaf-index
