use Rattle.std.proofs.Common.{rules, ◌≡◌}
use Rattle.std.proofs.lemmas.Result.{on_ok_weaker}
use Rattle.flow_bits.specs.Sets.{Has}
use Rattle.spark_messages.specs.declared.messages.Code.TheVariants as code
use Rattle.spark_messages.specs.MessageTexts.{unassigned_at_start_text}
use Rattle.used_modes.specs.Added.{error_at}
use Rattle.initializes_check.proofs.Told.{unset_told}
use Rattle.initializes_check.proofs.starts.append_unset_leaf.Goals as goal

pub returns : goal.returns
returns c =
    let same : c.error_at.result ≡ error_at c.args.body.now.place code.I04 (unassigned_at_start_text c.at-is_leaf.result.now.name
    c.args.name.now) = cc (c.in_ok-text.ensures, c.error_at.ensures, c.as_slice.ensures) in
    let read : Has c.args.reads.now c.args.leaf = c.has.ensures.0 (search (rules, c.if-not-has.false)) in
    let lack : Has c.args.unset.now c.args.leaf = c.has-else-not-has.ensures.0 (search (rules, c.if-not-has-2.false)) in
    on_ok_weaker c.note.result (λ a. unset_told c.args.program.now (Has c.args.reads.now) (Has c.args.unset.now) c.args.body.now
    c.args.name.now c.args.leaf read lack c.at-is_leaf.result.now c.at-is_leaf.ensures c.error_at.result same c.args.list.now
    c.note.new.list a) c.note.ensures
