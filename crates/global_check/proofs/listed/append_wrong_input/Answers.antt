use Rattle.std.proofs.Common.{rules, ◌≡◌, ◌∙◌, sym}
use Rattle.std.proofs.lemmas.Result.{on_ok_weaker}
use denote.Enum.Bare.{same_true}
use Rattle.spark_messages.specs.contracts.message_texts.UsedMode.{the_type}
use Rattle.spark_messages.specs.declared.message_texts.UsedMode.TheVariants as used
use Rattle.spark_messages.specs.declared.messages.Code.TheVariants as code
use Rattle.spark_messages.specs.MessageTexts.{written_input_text}
use Rattle.used_modes.specs.Added.{error_at}
use Rattle.used_modes.specs.UsedModes.{row_of}
use Rattle.global_check.proofs.Wrong.{unused_input, written_input}
use Rattle.global_check.proofs.listed.append_wrong_input.Goals as goal

pub returns-then-eq : goal.returns-then-eq
returns-then-eq c =
    let is : c.used_mode-used.result ≡ used.Nothing = same_true the_type (search rules) c.used_mode-used.result used.Nothing (sym
    c.eq.ensures ∙ c.if-eq.true) in
    on_ok_weaker c.append_used_less.result
    (λ a. unused_input c.args.program.now (row_of c.args.rows.now c.args.number.0) c.args.body.now c.args.global c.args.item
    c.args.name.now c.args.list.now c.used_mode-used.result is c.used_mode-used.ensures c.append_used_less.new.list a)
    c.append_used_less.ensures

pub returns : goal.returns
returns c =
    let same : c.error_at.result ≡ error_at c.args.global.place code.G02 (written_input_text c.args.name.now c.args.body.now.name) = cc
    (c.in_ok-text.ensures, c.error_at.ensures, c.as_slice.ensures) in
    on_ok_weaker c.note.result
    (λ a. written_input c.args.program.now (row_of c.args.rows.now c.args.number.0) c.args.body.now c.args.global c.args.item
    c.args.name.now c.args.list.now
    (c.some_leaf.ensures.0 (search (rules, c.if-not-some_leaf.false))) c.error_at.result same c.note.new.list a)
    c.note.ensures
