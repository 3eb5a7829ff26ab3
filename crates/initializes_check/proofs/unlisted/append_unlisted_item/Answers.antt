use Rattle.std.proofs.Common.{rules, ◌≡◌}
use Rattle.std.proofs.lemmas.Bool.{both_ways}
use Rattle.std.proofs.lemmas.Result.{on_ok_weaker}
use Rattle.flow_bits.specs.Sets.{Has}
use Rattle.spark_messages.specs.declared.messages.Code.TheVariants as code
use Rattle.spark_messages.specs.MessageTexts.{unlisted_initial_text}
use Rattle.used_modes.specs.Added.{warning_at}
use Rattle.initializes_check.specs.InitializesCheck.{IsCandidate}
use Rattle.initializes_check.proofs.Told.{unlisted_told}
use Rattle.initializes_check.proofs.unlisted.append_unlisted_item.Goals as goal

pub returns : goal.returns
returns c =
    let same : c.warning_at.result ≡ warning_at c.args.place code.I02 (unlisted_initial_text c.item_name-name.result.now) = cc
    (c.in_ok-text.ensures, c.warning_at.ensures, c.as_slice.ensures) in
    let candidate : IsCandidate c.args.program.now c.args.number.0 c.args.item = c.in_ok-candidate.ensures.0 (search (
      rules,
      c.if-not-candidate.false,
    )) in
    on_ok_weaker c.note.result (λ a. unlisted_told c.args.program.now (Has c.args.unset.now) c.args.number.0 c.args.place c.args.items.now
    c.args.item candidate (λ h. both_ways c.is_listed.result c.if-is_listed.false (c.is_listed.ensures.1 h))
    (λ h. both_ways c.in_ok-lacks.lacks c.if-lacks.false (c.in_ok-lacks.ensures.1 h)) c.item_name-name.result.now
    c.item_name-name.ensures c.warning_at.result same c.args.list.now c.note.new.list a)
    c.note.ensures
