use Rattle.std.proofs.Common.{rules, ◌≡◌, ◌↔◌, ◌∙◌, sym, subst}
use Rattle.std.specs.List.{Contains}
use Rattle.std.proofs.lemmas.Result.{on_ok_weaker}
use denote.Enum.Bare.{differs_false}
use Rattle.core_form.specs.contracts.program.BodyKind.{the_type}
use Rattle.core_form.specs.declared.program.BodyKind.{BodyKind}
use Rattle.core_form.specs.declared.program.Item.{Item}
use Rattle.used_modes.specs.UsedModes.{row_of}
use Rattle.global_check.specs.GlobalCheck.{IsWritten}
use Rattle.global_check.proofs.Whole.{each_written}
use Rattle.global_check.proofs.functions.append_function_writing.Goals as goal

pub returns : goal.returns
returns c =
    let is : c.args.body.now.kind ≡ BodyKind.Function = differs_false the_type (search rules) c.args.body.now.kind BodyKind.Function (sym
    c.ne.ensures ∙ c.if-ne.false) in
    on_ok_weaker c.append_written_items.result
    (λ a. each_written c.args.program.now (row_of c.args.rows.now c.args.number.0) c.args.body.now c.args.number.0 c.as_slice.result.now is
    (subst (λ xs. (i : Item) → Contains xs i ↔ IsWritten c.args.program.now (row_of c.args.rows.now c.args.number.0) c.args.number.0
    c.args.body.now i) (sym c.as_slice.ensures) c.in_ok-items.ensures.set)
    c.args.list.now c.append_written_items.new.list a)
    c.append_written_items.ensures
