use Rattle.std.proofs.Common.{◌≢◌, ◌∙◌, sym}
use Rattle.std.proofs.lemmas.Result.{on_ok_weaker}
use denote.Enum.Bare.{same_false}
use Rattle.spark_messages.specs.contracts.message_texts.UsedMode.{the_type}
use Rattle.spark_messages.specs.declared.message_texts.UsedMode.TheVariants as used
use Rattle.used_modes.specs.UsedModes.{row_of}
use Rattle.global_check.proofs.Wrong.{other_in_out}
use Rattle.global_check.proofs.listed.append_wrong_in_out.Goals as goal

pub returns : goal.returns
returns c =
    let not : c.used_mode-used.result ≢ used.InOut = same_false the_type c.used_mode-used.result used.InOut (sym c.eq.ensures ∙
    c.if-eq.false) in
    on_ok_weaker c.append_used_less.result
    (λ a. other_in_out c.args.program.now (row_of c.args.rows.now c.args.number.0) c.args.body.now c.args.global c.args.item
    c.args.name.now c.args.list.now c.used_mode-used.result not c.used_mode-used.ensures c.append_used_less.new.list a)
    c.append_used_less.ensures
