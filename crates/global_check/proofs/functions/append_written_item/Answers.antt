use Rattle.std.proofs.Common.{◌≡◌}
use Rattle.std.proofs.lemmas.Result.{on_ok_weaker}
use Rattle.spark_messages.specs.declared.messages.Code.TheVariants as code
use Rattle.spark_messages.specs.MessageTexts.{writing_function_text}
use Rattle.used_modes.specs.Added.{error_at}
use Rattle.global_check.proofs.Told.{written_told}
use Rattle.global_check.proofs.functions.append_written_item.Goals as goal

pub returns : goal.returns
returns c =
    let same : c.error_at.result ≡ error_at c.args.body.now.place code.G05 (writing_function_text c.args.body.now.name
    c.item_name-name.result.now) = cc (c.in_ok-text.ensures, c.error_at.ensures, c.as_slice.ensures, c.as_slice-2.ensures) in
    on_ok_weaker c.note.result (λ a. written_told c.args.program.now c.args.body.now c.args.item c.item_name-name.result.now
    c.item_name-name.ensures c.error_at.result same c.args.list.now c.note.new.list a) c.note.ensures
