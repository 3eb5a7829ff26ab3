use Rattle.std.proofs.Common.{◌<◌, None, length, get_or}
use Rattle.std.proofs.lemmas.Option.{slice_get-get_or}
use Rattle.core_form.specs.declared.contract.DependsPair.{DependsPair}
use Rattle.spark_messages.specs.declared.messages.Message.{Message}
use Rattle.std.specs.List.{Contains}
use Rattle.depends_check.specs.DependsCheck.{IsStranger}
use Rattle.used_modes.proofs.Adding.{begun, ended, one_more}
use Rattle.depends_check.proofs.faults.append_strangers.Goals as goal

pub loop-pair-init : goal.loop-pair-init
loop-pair-init c = begun (λ (pair : DependsPair) (m : Message). IsStranger c.args.program.now c.args.body.now c.args.side (Contains
    c.args.items.now) pair m) c.args.pairs.now c.args.list.now

pub loop-pair-preserved : goal.loop-pair-preserved
loop-pair-preserved c =
    let none : DependsPair = record {
      output = None;
      input = None;
      place = record {
        file = record { 0 = 0 };
        «from» = record {
          line = 0;
          col = 0;
        };
        to = record { line = 0; col = 0 };
      };
    } in
    let within : c.loop-pair.pair-index < length c.args.pairs.now = c.loop-pair-test.true in
    one_more (λ (pair : DependsPair) (m : Message). IsStranger c.args.program.now c.args.body.now c.args.side (Contains c.args.items.now)
    pair m) c.args.pairs.now c.args.list.now c.loop-pair.list c.append_stranger.new.list c.loop-pair.pair-index (get_or
    c.args.pairs.now c.loop-pair.pair-index none) (slice_get-get_or c.args.pairs.now c.loop-pair.pair-index none within)
    c.loop-pair.invariant
    (c.in_ok-append_stranger.ensures)

pub returns : goal.returns
returns c = ended (λ (pair : DependsPair) (m : Message). IsStranger c.args.program.now c.args.body.now c.args.side (Contains
    c.args.items.now) pair m) c.args.pairs.now c.args.list.now c.loop-pair.list c.loop-pair.pair-index c.loop-pair-test.false
    c.loop-pair.invariant
