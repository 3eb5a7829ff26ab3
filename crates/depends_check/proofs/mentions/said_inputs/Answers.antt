use Rattle.std.proofs.Common.{◌<◌, None, [], length, get_or}
use Rattle.std.proofs.lemmas.Option.{slice_get-get_or}
use Rattle.core_form.specs.declared.contract.DependsPair.{DependsPair}
use Rattle.core_form.specs.declared.program.Item.{Item}
use Rattle.depends_check.specs.DependsCheck.{IsSaid}
use Rattle.used_modes.specs.Added.{SomeOf}
use Rattle.depends_check.proofs.Grown.{noted}
use Rattle.global_check.proofs.Gathered.{only}
use Rattle.used_modes.proofs.Adding.{ended, one_more}
use Rattle.depends_check.proofs.mentions.said_inputs.Goals as goal

pub loop-pair-preserved : goal.loop-pair-preserved
loop-pair-preserved c =
    let none : DependsPair = record {
      output = None;
      input = None;
      place = record {
        file = record { 0 = 0 };
        «from» = record {
          line = 0;
          col = 0;
        };
        to = record { line = 0; col = 0 };
      };
    } in
    let within : c.loop-pair.pair-index < length c.args.pairs.now = c.loop-pair-test.true in
    one_more (λ (pair : DependsPair) (i : Item). IsSaid c.args.program.now c.args.output pair i) c.args.pairs.now [] c.loop-pair.items
    c.note_some.new.self c.loop-pair.pair-index (get_or c.args.pairs.now c.loop-pair.pair-index none) (slice_get-get_or
    c.args.pairs.now c.loop-pair.pair-index none within) c.loop-pair.invariant
    (noted c.said_input.result (λ i. IsSaid c.args.program.now c.args.output (get_or c.args.pairs.now c.loop-pair.pair-index none) i)
    c.said_input.ensures c.loop-pair.items c.note_some.new.self c.in_ok-note_some.ensures)

pub returns : goal.returns
returns c = only c.loop-pair.items (λ i. SomeOf (λ pair. IsSaid c.args.program.now c.args.output pair i) c.args.pairs.now) (ended (λ
    (pair : DependsPair) (i : Item). IsSaid c.args.program.now c.args.output pair i) c.args.pairs.now [] c.loop-pair.items
    c.loop-pair.pair-index c.loop-pair-test.false c.loop-pair.invariant)
