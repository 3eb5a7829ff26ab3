use Rattle.std.proofs.Common.{sym, subst}
use Rattle.std.proofs.lemmas.Result.{on_ok_weaker}
use Rattle.state_map.specs.Views.{IsItemName}
use Rattle.used_modes.specs.UsedModes.{row_of}
use Rattle.global_check.proofs.Wrong.{listed_told}
use Rattle.global_check.proofs.listed.append_listed_item.Goals as goal

pub returns : goal.returns
returns c = on_ok_weaker c.append_wrong_mode.result
    (λ a. listed_told c.args.program.now (row_of c.args.rows.now c.args.number.0) c.args.body.now c.args.global c.at-item.result.now
    c.as_slice-name.result.now c.at-item.ensures
    (subst (λ n. IsItemName c.args.program.now c.args.body.now.object c.at-item.result.now n) (sym c.as_slice-name.ensures)
    c.item_name.ensures) c.args.list.now c.append_wrong_mode.new.list a)
    c.append_wrong_mode.ensures
