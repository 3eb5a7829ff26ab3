use Rattle.std.proofs.Common.{◌≡◌}
use Rattle.std.proofs.lemmas.Result.{on_ok_weaker}
use Rattle.spark_messages.specs.declared.messages.Code.TheVariants as code
use Rattle.spark_messages.specs.MessageTexts.{unused_dependency_text}
use Rattle.used_modes.specs.Added.{warning_at}
use Rattle.depends_check.proofs.Told.{unused_told}
use Rattle.depends_check.proofs.dependencies.append_unused_item.Goals as goal

pub returns : goal.returns
returns c =
    let same : c.warning_at.result ≡ warning_at c.args.pair.place code.D02 (unused_dependency_text c.item_name-output.result.now
    c.item_name-input.result.now c.args.body.now.name) = cc (
      c.in_ok-text.ensures,
      c.warning_at.ensures,
      c.as_slice.ensures,
      c.as_slice-2.ensures,
      c.as_slice-3.ensures,
    ) in
    on_ok_weaker c.note.result (λ a. unused_told c.args.program.now c.args.body.now c.args.output c.args.item
    c.item_name-output.result.now c.item_name-input.result.now c.item_name-output.ensures
    c.item_name-input.ensures c.args.pair c.warning_at.result same c.args.list.now c.note.new.list a) c.note.ensures
