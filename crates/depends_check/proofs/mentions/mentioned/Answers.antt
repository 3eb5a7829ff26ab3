use Rattle.std.proofs.Common.{◌≡◌, ◌<◌, Some, None, [], length, get_or, subst}
use Rattle.std.proofs.lemmas.Option.{slice_get-get_or}
use Rattle.core_form.specs.declared.contract.DependsPair.{DependsPair}
use Rattle.core_form.specs.declared.program.Item.{Item}
use Rattle.depends_check.specs.DependsCheck.{mention}
use Rattle.used_modes.specs.Added.{Adds}
use Rattle.global_check.proofs.Gathered.{only}
use Rattle.depends_check.specs.DependsCheck.{IsMentioned}
use Rattle.used_modes.proofs.Adding.{ended, one_more}
use Rattle.depends_check.proofs.mentions.mentioned.Goals as goal

pub loop-pair-preserved : goal.loop-pair-preserved
loop-pair-preserved c =
    let none : DependsPair = record {
      output = None;
      input = None;
      place = record {
        file = record { 0 = 0 };
        «from» = record {
          line = 0;
          col = 0;
        };
        to = record { line = 0; col = 0 };
      };
    } in
    let within : c.loop-pair.pair-index < length c.args.pairs.now = c.loop-pair-test.true in
    one_more (λ (pair : DependsPair) (i : Item). mention c.args.program.now c.args.side pair ≡ Some i) c.args.pairs.now []
    c.loop-pair.items c.note_some.new.self c.loop-pair.pair-index (get_or c.args.pairs.now c.loop-pair.pair-index none)
    (slice_get-get_or c.args.pairs.now c.loop-pair.pair-index none within) c.loop-pair.invariant
    (subst (λ o. Adds c.loop-pair.items c.note_some.new.self (λ i. o ≡ Some i)) c.mention.ensures c.in_ok-note_some.ensures)

pub returns : goal.returns
returns c = only c.loop-pair.items (IsMentioned c.args.program.now c.args.side c.args.pairs.now) (ended (λ (pair : DependsPair) (i :
    Item). mention c.args.program.now c.args.side pair ≡ Some i) c.args.pairs.now [] c.loop-pair.items c.loop-pair.pair-index
    c.loop-pair-test.false c.loop-pair.invariant)
