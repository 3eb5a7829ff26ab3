use Rattle.std.proofs.Common.{refl, ap}
use Rattle.ada_tree.specs.declared.units.Units.{Units}
use Rattle.spark_parser.proofs.ToldFiles.{are_read, are_refused, files_on, no_files}
use Rattle.spark_parser.proofs.calls.parse.Goals as goal

pub loop-tokens-init : goal.loop-tokens-init
loop-tokens-init c = no_files c.new-units.ensures.ordered (ap (λ (z : Units). z.units) c.new-units.ensures.empty) c.new-refusals.ensures

pub loop-tokens-preserved : goal.loop-tokens-preserved
loop-tokens-preserved c = files_on c.args.all.now c.loop-tokens.tokens-index c.tokens-item.result c.tokens-item.is c.loop-tokens-test.true c.loop-tokens.invariant c.in_ok-add_file.ensures

pub returns-then-is_empty : goal.returns-then-is_empty
returns-then-is_empty c = are_read c.args.all.now c.loop-tokens.tokens-index c.loop-tokens-test.false (c.if-is_empty.ensures.0 refl) c.loop-tokens.invariant

pub returns-else-is_empty : goal.returns-else-is_empty
returns-else-is_empty c = are_refused c.args.all.now c.loop-tokens.tokens-index c.loop-tokens-test.false c.if-is_empty.ensures.1 c.loop-tokens.invariant
