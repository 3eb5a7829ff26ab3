use Rattle.std.proofs.Common.{◌≡◌, ◌∙◌, Some, sym, ap}
use Rattle.std.proofs.lemmas.Result.{on_ok_weaker}
use Rattle.core_form.specs.declared.program.Item.{Item}
use Rattle.used_modes.proofs.Adding.{adds_same}
use Rattle.global_check.proofs.Gathered.{same_item}
use Rattle.depends_check.proofs.item_sets.ItemSet.note_some.Goals as goal

pub returns-in-Some : goal.returns-in-Some
returns-in-Some c = on_ok_weaker c.note.result
    (λ a. adds_same c.args.self.now c.note.new.self (λ (i : Item). i ≡ c.in-Some.item) (λ i. c.args.item ≡ Some i) a (λ i. (
      λ e. c.in-Some.is ∙ ap Some (sym e),
      λ h. sym (same_item c.in-Some.item i (sym c.in-Some.is ∙ h)),
    )))
    c.note.ensures
