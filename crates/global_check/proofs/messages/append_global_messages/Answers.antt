use Rattle.std.proofs.Common.{◌∙◌, sym, subst, ap}
use Rattle.std.specs.Prelude.{IsSomeAnd}
use Rattle.std.specs.Option.{option_copied}
use Rattle.std.proofs.lemmas.Result.{on_ok_weaker}
use Rattle.spark_messages.specs.declared.messages.Message.{Message}
use Rattle.core_form.specs.declared.contract.Contract.{Contract}
use Rattle.used_modes.specs.Added.{Adds}
use Rattle.used_modes.specs.UsedModes.{row_of}
use Rattle.used_modes.proofs.Adding.{adds_both}
use Rattle.global_check.specs.GlobalCheck.{IsFunctionWriting, IsWrongGlobal, checked_contract}
use Rattle.global_check.proofs.Gathered.{of_none, of_some}
use Rattle.global_check.proofs.messages.append_global_messages.Goals as goal
use Rattle.global_check.proofs.messages.append_global_messages.Goals.{in-Some+in_ok-append_wrong_global, in_default}

pub returns : goal.returns
returns c =
    let first : Adds c.args.list.now c.match-checked_contract.list (λ (m : Message). IsSomeAnd (checked_contract c.args.body.now) (λ k.
    IsWrongGlobal c.args.program.now (row_of c.args.rows.now c.args.number.0) c.args.body.now k m)) =
    elim c.match-checked_contract.branch [
      | in-Some+in_ok-append_wrong_global w ↦ of_some (λ (k : Contract) (m : Message). IsWrongGlobal c.args.program.now (row_of
          c.args.rows.now c.args.number.0) c.args.body.now k m) (checked_contract c.args.body.now) w.in-Some.contract.now
          (sym c.checked_contract.ensures ∙ ap option_copied w.in-Some.is) c.args.list.now c.match-checked_contract.list
          (subst (λ (xs : _). Adds c.args.list.now xs (λ (m : Message). IsWrongGlobal c.args.program.now (row_of c.args.rows.now
          c.args.number.0) c.args.body.now w.in-Some.contract.now m)) (sym w.list-is) w.in_ok-append_wrong_global.ensures)
      | in_default w ↦ subst (λ (xs : _). Adds c.args.list.now xs (λ (m : Message). IsSomeAnd (checked_contract c.args.body.now) (λ k.
          IsWrongGlobal c.args.program.now (row_of c.args.rows.now c.args.number.0) c.args.body.now k m))) (sym w.list-is)
          (of_none (λ (k : Contract) (m : Message). IsWrongGlobal c.args.program.now (row_of c.args.rows.now c.args.number.0)
          c.args.body.now k m) (checked_contract c.args.body.now)
          (sym c.checked_contract.ensures ∙ ap option_copied w.in_default.is) c.args.list.now)
    ] in
    on_ok_weaker c.append_function_writing.result
    (λ a. adds_both c.args.list.now c.match-checked_contract.list c.append_function_writing.new.list (λ (m : Message). IsSomeAnd
    (checked_contract c.args.body.now) (λ k. IsWrongGlobal c.args.program.now (row_of c.args.rows.now c.args.number.0)
    c.args.body.now k m))
    (IsFunctionWriting c.args.program.now (row_of c.args.rows.now c.args.number.0) c.args.number.0 c.args.body.now) first a)
    c.append_function_writing.ensures
