use Rattle.std.proofs.Common.{◌≡◌}
use Rattle.std.proofs.lemmas.Result.{on_ok_weaker}
use Rattle.spark_messages.specs.declared.messages.Code.TheVariants as code
use Rattle.spark_messages.specs.MessageTexts.{unlisted_text}
use Rattle.used_modes.specs.Added.{error_at}
use Rattle.used_modes.specs.UsedModes.{row_of}
use Rattle.global_check.proofs.Told.{unlisted_told}
use Rattle.global_check.proofs.unlisted.append_unlisted_item.Goals as goal

pub returns : goal.returns
returns c =
    let same : c.error_at.result ≡ error_at c.args.body.now.place code.G01 (unlisted_text c.item_name-name.result.now
    c.used_mode-mode.result c.args.body.now.name) = cc (
      c.in_ok-text.ensures,
      c.error_at.ensures,
      c.as_slice.ensures,
      c.as_slice-2.ensures,
    ) in
    on_ok_weaker c.note.result (λ a. unlisted_told c.args.program.now (row_of c.args.rows.now c.args.number.0) c.args.body.now
    c.args.item c.used_mode-mode.result c.item_name-name.result.now c.used_mode-mode.ensures c.item_name-name.ensures
    c.error_at.result same c.args.list.now c.note.new.list a) c.note.ensures
