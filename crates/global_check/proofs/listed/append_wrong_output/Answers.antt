use Rattle.std.proofs.Common.{rules, ◌≡◌, ◌⊎◌, inl, inr}
use Rattle.std.proofs.lemmas.Result.{on_ok_weaker}
use Rattle.spark_messages.specs.declared.messages.Code.TheVariants as code
use Rattle.spark_messages.specs.MessageTexts.{read_output_text}
use Rattle.used_modes.specs.Added.{error_at}
use Rattle.used_modes.specs.UsedModes.{IsLeft, SomeLeaf, row_of}
use Rattle.global_check.proofs.Wrong.{read_output}
use Rattle.global_check.proofs.listed.append_wrong_output.Goals as goal
use Rattle.global_check.proofs.listed.append_wrong_output.Goals.{else-not-some_leaf-via-then-not-some_leaf+else-not-is_left}
use Rattle.global_check.proofs.listed.append_wrong_output.Goals.{else-not-some_leaf-via-else-not-some_leaf}

pub returns : goal.returns
returns c =
    let same : c.error_at.result ≡ error_at c.args.global.place code.G03 (read_output_text c.args.name.now c.args.body.now.name) = cc
    (c.in_ok-text.ensures, c.error_at.ensures, c.as_slice.ensures) in
    let is : SomeLeaf c.args.program.now c.args.item (row_of c.args.rows.now c.args.number.0).reads ⊎ IsLeft c.args.program.now (row_of
    c.args.rows.now c.args.number.0) c.args.item =
    elim c.else-not-some_leaf.branch [
      | else-not-some_leaf-via-then-not-some_leaf+else-not-is_left w ↦ inr (w.is_left.ensures.0 (search (rules, w.if-not-is_left.false)))
      | else-not-some_leaf-via-else-not-some_leaf w ↦ inl (c.some_leaf.ensures.0 (search (rules, w.if-not-some_leaf.false)))
    ] in
    on_ok_weaker c.note.result
    (λ a. read_output c.args.program.now (row_of c.args.rows.now c.args.number.0) c.args.body.now c.args.global c.args.item
    c.args.name.now c.args.list.now is c.error_at.result same c.note.new.list a) c.note.ensures
