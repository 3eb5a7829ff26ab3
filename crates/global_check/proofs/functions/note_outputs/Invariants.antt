use Rattle.std.proofs.Common.{◌≡◌, Some}
use Rattle.std.specs.Prelude.{IsTrue, slice_get}
use Rattle.core_form.specs.declared.contract.GlobalItem.{GlobalItem}
use Rattle.core_form.specs.declared.program.Item.{Item}
use Rattle.used_modes.proofs.Adding.{SoFar}
use Rattle.global_check.specs.GlobalCheck.{passes}
use Rattle.global_check.specs.declared.listing.Listing.{Listing}
use Rattle.global_check.proofs.functions.note_outputs.Given as goal

abbrev pub invariant-loop-global : goal.invariant-loop-global
invariant-loop-global l = SoFar l.initial.items l.items (λ (g : GlobalItem) (i : Item). IsTrue (passes Listing.AsOutput g.mode) ×
    (slice_get l.program.items g.item.0 ≡ Some i)) l.globals l.global-index
