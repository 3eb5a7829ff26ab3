use Rattle.std.proofs.Common.{◌↔◌, sym, subst}
use Rattle.std.specs.List.{Contains}
use Rattle.std.proofs.lemmas.Result.{on_ok_weaker}
use Rattle.core_form.specs.declared.program.Item.{Item}
use Rattle.used_modes.specs.UsedModes.{row_of}
use Rattle.global_check.specs.GlobalCheck.{IsUsedUnlisted}
use Rattle.global_check.proofs.Whole.{each_unlisted}
use Rattle.global_check.proofs.unlisted.append_unlisted.Goals as goal

pub returns : goal.returns
returns c = on_ok_weaker c.append_unlisted_items.result
    (λ a. each_unlisted c.args.program.now (row_of c.args.rows.now c.args.number.0) c.args.body.now c.args.contract.now
    c.as_slice.result.now
    (subst (λ xs. (i : Item) → Contains xs i ↔ IsUsedUnlisted c.args.program.now (row_of c.args.rows.now c.args.number.0) c.args.body.now
    c.args.contract.now i) (sym c.as_slice.ensures) c.in_ok-items.ensures.set)
    c.args.list.now c.append_unlisted_items.new.list a)
    c.append_unlisted_items.ensures
