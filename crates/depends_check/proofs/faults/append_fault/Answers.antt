use Rattle.std.proofs.Common.{◌≡◌}
use Rattle.std.proofs.lemmas.Result.{on_ok_weaker}
use Rattle.spark_messages.specs.declared.messages.Code.TheVariants as code
use Rattle.used_modes.specs.Added.{error_at}
use Rattle.depends_check.specs.DependsCheck.{fault_text}
use Rattle.depends_check.proofs.Told.{fault_told}
use Rattle.depends_check.proofs.faults.append_fault.Goals as goal

pub returns : goal.returns
returns c =
    let same : c.error_at.result ≡ error_at c.args.place code.D03 (fault_text c.args.fault c.item_name-name.result.now) = cc
    (c.in_ok-text.ensures, c.error_at.ensures, c.as_slice.ensures) in
    on_ok_weaker c.note.result (λ a. fault_told c.args.program.now c.args.body.now c.args.fault c.args.place c.args.item
    c.item_name-name.result.now c.item_name-name.ensures
    c.error_at.result same c.args.list.now c.note.new.list a) c.note.ensures
