use Rattle.std.proofs.Common.{◌≡◌, ◌^◌, arith}
use Rattle.ada_lexer.specs.Cut.{value_from}
use Rattle.ada_lexer.proofs.Fitting.{fits_over, none_over, some_is, power_over, times_over, no_base}
use Rattle.ada_lexer.proofs.number.scaled.Goals as goal

pub returns-in-None : goal.returns-in-None
returns-in-None c = fits_over _ (power_over (2 ^ 128) (value_from c.args.base 0 c.args.digits.now) c.args.base (value_from 10 0 c.args.exponent.now) (none_over _ c.in-None.ensures) (omega arith))

pub returns-in-None-value_in : goal.returns-in-None-value_in
returns-in-None-value_in c = let v : c.in-Some.value ≡ value_from c.args.base 0 c.args.digits.now = some_is _ c.in-Some.value c.in-Some.ensures in
    fits_over _ (times_over (2 ^ 128) (value_from c.args.base 0 c.args.digits.now) c.args.base (value_from 10 0 c.args.exponent.now) (omega arith) (omega arith) (none_over _ c.in-None-value_in.ensures))

pub returns-then-base-eq0 : goal.returns-then-base-eq0
returns-then-base-eq0 c = no_base c.args.base c.args.digits.now (value_from 10 0 c.args.exponent.now) c.if-base-eq0.true
