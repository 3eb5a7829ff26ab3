use Rattle.std.proofs.Common.{sym, subst}
use Rattle.std.specs.Prelude.{OnOk}
use Rattle.used_modes.specs.Added.{Adds}
use Rattle.used_modes.specs.UsedModes.{row_of}
use Rattle.global_check.specs.GlobalCheck.{IsWrongMode}
use Rattle.global_check.proofs.listed.append_wrong_mode.Goals as goal

pub returns-in-Input : goal.returns-in-Input
returns-in-Input c = subst (λ k. OnOk c.append_wrong_input.result (Adds c.args.list.now c.append_wrong_input.new.list (IsWrongMode
    c.args.program.now (row_of c.args.rows.now c.args.number.0) c.args.body.now c.args.global c.args.item c.args.name.now k))) (sym
    c.in-Input.is) c.append_wrong_input.ensures

pub returns-in-Output : goal.returns-in-Output
returns-in-Output c = subst (λ k. OnOk c.append_wrong_output.result (Adds c.args.list.now c.append_wrong_output.new.list (IsWrongMode
    c.args.program.now (row_of c.args.rows.now c.args.number.0) c.args.body.now c.args.global c.args.item c.args.name.now k))) (sym
    c.in-Output.is) c.append_wrong_output.ensures

pub returns-in-InOut : goal.returns-in-InOut
returns-in-InOut c = subst (λ k. OnOk c.append_wrong_in_out.result (Adds c.args.list.now c.append_wrong_in_out.new.list (IsWrongMode
    c.args.program.now (row_of c.args.rows.now c.args.number.0) c.args.body.now c.args.global c.args.item c.args.name.now k))) (sym
    c.in-InOut.is) c.append_wrong_in_out.ensures
