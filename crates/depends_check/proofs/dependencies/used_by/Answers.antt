use Rattle.std.proofs.Common.{rules, ◌↔◌, All}
use Rattle.std.specs.List.{Contains}
use Rattle.std.proofs.lemmas.Result.{IfOk-weaker}
use Rattle.core_form.specs.Fine.{IsFineItem}
use Rattle.core_form.specs.declared.program.Item.{Item}
use Rattle.depends_check.specs.DependsCheck.{IsUsed}
use Rattle.depends_check.proofs.Fine.{all_used_fine}
use Rattle.depends_check.proofs.dependencies.used_by.Goals as goal

pub returns-then-has-clause-set : goal.returns-then-has-clause-set
returns-then-has-clause-set c =
    let there : Contains c.args.outputs.now c.args.item = c.has.ensures.0 (search (rules, c.if-has.true)) in
    let used = IsUsed c.args.program.now c.args.rows.now c.args.number.0 c.args.body.now c.args.item in
    IfOk-weaker c.used_items.result (λ items. (i : Item) → Contains items i ↔ used i) (λ items. (i : Item) → Contains items i ↔ (Contains
    c.args.outputs.now c.args.item × used i))
    (λ items set i. (λ h. (there, (set i).0 h), λ h. (set i).1 h.1)) c.used_items.ensures

pub returns-then-has-clause-fine : goal.returns-then-has-clause-fine
returns-then-has-clause-fine c =
    let used = IsUsed c.args.program.now c.args.rows.now c.args.number.0 c.args.body.now c.args.item in
    IfOk-weaker c.used_items.result (λ items. (i : Item) → Contains items i ↔ used i) (λ items. All (IsFineItem c.args.program.now) items)
    (λ items set. all_used_fine c.args.program.now c.requires.fine c.args.rows.now c.args.number.0 c.args.body.now c.args.item
    c.requires.item items set) c.used_items.ensures
