use Rattle.std.proofs.Common.{◌≡◌}
use Rattle.std.specs.List.{Contains}
use Rattle.std.proofs.lemmas.Bool.{both_ways}
use Rattle.std.proofs.lemmas.Result.{on_ok_weaker}
use Rattle.spark_messages.specs.declared.messages.Code.TheVariants as code
use Rattle.spark_messages.specs.MessageTexts.{missing_dependency_text}
use Rattle.used_modes.specs.Added.{error_at}
use Rattle.depends_check.specs.DependsCheck.{TellsMissing}
use Rattle.depends_check.proofs.Grown.{with_fact}
use Rattle.depends_check.proofs.Told.{missing_told}
use Rattle.depends_check.proofs.dependencies.append_unsaid_item.Goals as goal

pub returns : goal.returns
returns c =
    let none : Contains c.args.said.now c.args.item → ⊥ = λ h. both_ways c.has.result c.if-has.false (c.has.ensures.1 h) in
    let same : c.error_at.result ≡ error_at c.args.place code.D01 (missing_dependency_text c.item_name-output.result.now
    c.item_name-input.result.now c.args.body.now.name) = cc (
      c.in_ok-text.ensures,
      c.error_at.ensures,
      c.as_slice.ensures,
      c.as_slice-2.ensures,
      c.as_slice-3.ensures,
    ) in
    on_ok_weaker c.note.result (λ a. with_fact c.args.list.now c.note.new.list (Contains c.args.said.now c.args.item → ⊥) (TellsMissing
    c.args.program.now c.args.body.now c.args.place c.args.output c.args.item) none
    (missing_told c.args.program.now c.args.body.now c.args.output c.args.item c.item_name-output.result.now c.item_name-input.result.now
    c.item_name-output.ensures
    c.item_name-input.ensures c.args.place c.error_at.result same c.args.list.now c.note.new.list a)) c.note.ensures
