use Rattle.std.proofs.Common.{◌≡◌, ◌<◌, None, Some, length, get_or, subst}
use Rattle.std.specs.Prelude.{slice_get}
use Rattle.std.proofs.lemmas.Option.{slice_get-get_or}
use Rattle.core_form.specs.declared.contract.DependsPair.{DependsPair}
use Rattle.core_form.specs.declared.program.Item.{Item}
use Rattle.spark_messages.specs.declared.messages.Message.{Message}
use Rattle.used_modes.specs.Added.{Adds}
use Rattle.depends_check.specs.DependsCheck.{IsDoubled}
use Rattle.depends_check.proofs.Doubled.{all_doubled, doubled_at, none_before, one_before}
use Rattle.depends_check.proofs.Grown.{below_more, below_none}
use Rattle.depends_check.proofs.faults.append_doubled.Goals as goal

pub loop-pair-init : goal.loop-pair-init
loop-pair-init c = record {
  before = none_before c.args.program.now c.args.body.now c.args.pairs.now c.new-before.result c.new-before.ensures;
  added = below_none (λ k (m : Message). IsDoubled c.args.program.now c.args.body.now c.args.pairs.now k m) c.args.list.now;
}

pub loop-pair-preserved : goal.loop-pair-preserved
loop-pair-preserved c =
    let p = c.args.program.now in
    let body = c.args.body.now in
    let pairs = c.args.pairs.now in
    let k = c.loop-pair.pair-index in
    let none : DependsPair = record {
      output = None;
      input = None;
      place = record {
        file = record { 0 = 0 };
        «from» = record {
          line = 0;
          col = 0;
        };
        to = record { line = 0; col = 0 };
      };
    } in
    let within : k < length pairs = c.loop-pair-test.true in
    let pair : DependsPair = get_or pairs k none in
    let is : slice_get pairs k ≡ Some pair = slice_get-get_or pairs k none within in
    record {
      before = one_before p body pairs k pair is c.loop-pair.before c.loop-pair.invariant.before c.note_some.new.self
          (subst (λ r. Adds c.loop-pair.before c.note_some.new.self (λ (o : Item). r ≡ Some o)) c.mention.ensures
          c.in_ok-note_some.ensures);
      added = below_more (λ n (m : Message). IsDoubled p body pairs n m) c.args.list.now c.loop-pair.list
          c.append_doubled_mention.new.list k c.loop-pair.invariant.added
          (doubled_at p body pairs k pair is c.loop-pair.before c.loop-pair.invariant.before c.loop-pair.list
          c.append_doubled_mention.new.list c.in_ok-append_doubled_mention.ensures);
    }

pub returns : goal.returns
returns c = all_doubled c.args.program.now c.args.body.now c.args.pairs.now c.args.list.now c.loop-pair.list c.loop-pair.pair-index
    c.loop-pair-test.false c.loop-pair.invariant.added
