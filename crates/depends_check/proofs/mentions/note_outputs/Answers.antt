use Rattle.std.proofs.Common.{◌≡◌, ◌<◌, Some, None, length, get_or, subst}
use Rattle.std.proofs.lemmas.Option.{slice_get-get_or}
use Rattle.core_form.specs.declared.contract.DependsPair.{DependsPair}
use Rattle.core_form.specs.declared.program.Item.{Item}
use Rattle.depends_check.specs.DependsCheck.{item_at}
use Rattle.used_modes.specs.Added.{Adds}
use Rattle.used_modes.proofs.Adding.{begun, ended, one_more}
use Rattle.depends_check.proofs.mentions.note_outputs.Goals as goal

pub loop-pair-init : goal.loop-pair-init
loop-pair-init c = begun (λ (pair : DependsPair) (o : Item). item_at c.args.program.now pair.output ≡ Some o) c.args.pairs.now
    c.args.items.now

pub loop-pair-preserved : goal.loop-pair-preserved
loop-pair-preserved c =
    let none : DependsPair = record {
      output = None;
      input = None;
      place = record {
        file = record { 0 = 0 };
        «from» = record {
          line = 0;
          col = 0;
        };
        to = record { line = 0; col = 0 };
      };
    } in
    let within : c.loop-pair.pair-index < length c.args.pairs.now = c.loop-pair-test.true in
    one_more (λ (pair : DependsPair) (o : Item). item_at c.args.program.now pair.output ≡ Some o) c.args.pairs.now c.args.items.now
    c.loop-pair.items c.note_some.new.self c.loop-pair.pair-index (get_or c.args.pairs.now c.loop-pair.pair-index none)
    (slice_get-get_or c.args.pairs.now c.loop-pair.pair-index none within) c.loop-pair.invariant
    (subst (λ o. Adds c.loop-pair.items c.note_some.new.self (λ i. o ≡ Some i)) c.item_at.ensures c.in_ok-note_some.ensures)

pub returns : goal.returns
returns c = ended (λ (pair : DependsPair) (o : Item). item_at c.args.program.now pair.output ≡ Some o) c.args.pairs.now c.args.items.now
    c.loop-pair.items c.loop-pair.pair-index c.loop-pair-test.false c.loop-pair.invariant
