use Rattle.std.proofs.Common.{◌≡◌}
use Rattle.std.proofs.lemmas.Result.{on_ok_weaker}
use Rattle.std.proofs.lemmas.Bool.{both_ways}
use Rattle.spark_messages.specs.declared.messages.Code.TheVariants as code
use Rattle.spark_messages.specs.MessageTexts.{unused_mode_text}
use Rattle.used_modes.specs.Added.{warning_at}
use Rattle.used_modes.specs.UsedModes.{row_of}
use Rattle.global_check.proofs.Wrong.{used_less}
use Rattle.global_check.proofs.listed.append_used_less.Goals as goal

pub returns : goal.returns
returns c =
    let same : c.warning_at.result ≡ warning_at c.args.global.place code.G04 (unused_mode_text c.args.name.now c.args.listed
    c.args.body.now.name c.args.mode) = cc (c.in_ok-text.ensures, c.warning_at.ensures, c.as_slice.ensures) in
    on_ok_weaker c.note.result (λ a. used_less c.args.program.now (row_of c.args.rows.now c.args.number.0) c.args.body.now c.args.global
    c.args.item c.args.name.now c.args.list.now c.args.listed c.args.mode c.requires.mode
    (λ k. both_ways c.is_clock.result c.if-is_clock.false (c.is_clock.ensures.1 k)) c.warning_at.result same c.note.new.list a)
    c.note.ensures
