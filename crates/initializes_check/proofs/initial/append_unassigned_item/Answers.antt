use Rattle.std.proofs.Common.{rules, ◌≡◌}
use Rattle.std.proofs.lemmas.Result.{on_ok_weaker}
use Rattle.flow_bits.specs.Sets.{Has}
use Rattle.spark_messages.specs.declared.messages.Code.TheVariants as code
use Rattle.spark_messages.specs.MessageTexts.{unassigned_initial_text}
use Rattle.used_modes.specs.Added.{error_at}
use Rattle.used_modes.specs.UsedModes.{SomeLeaf}
use Rattle.initializes_check.proofs.Told.{unassigned_told}
use Rattle.initializes_check.proofs.initial.append_unassigned_item.Goals as goal

pub returns : goal.returns
returns c =
    let same : c.error_at.result ≡ error_at c.args.listed.place code.I01 (unassigned_initial_text c.item_name-name.result.now) = cc
    (c.in_ok-text.ensures, c.error_at.ensures, c.as_slice.ensures) in
    let some : SomeLeaf c.args.program.now c.at-item.result.now (Has c.args.unset.now) = c.in_ok-lacks.ensures.0 (search (
      rules,
      c.if-not-lacks.false,
    )) in
    on_ok_weaker c.note.result (λ a. unassigned_told c.args.program.now (Has c.args.unset.now) c.args.listed c.at-item.result.now
    c.at-item.ensures c.args.list.now c.note.new.list some c.item_name-name.result.now c.item_name-name.ensures c.error_at.result same a)
    c.note.ensures
