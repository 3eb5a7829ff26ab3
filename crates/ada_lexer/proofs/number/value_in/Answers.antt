use Rattle.std.proofs.Common.{◌≡◌, ◌+◌, drop, [], sym, ◌∙◌, ap}
use Rattle.ada_lexer.specs.Runs.{fits}
use Rattle.ada_lexer.specs.Cut.{value_from}
use Rattle.ada_lexer.proofs.Fitting.{fits_under, some_is, some_fits, value_next, value_over}
use Rattle.std.proofs.Math.ListN.{drop_of_length-le}
use Rattle.ada_lexer.proofs.number.value_in.Goals as goal

pub returns-in-None : goal.returns-in-None
returns-in-None c = value_over c.args.base c.args.bytes.now c.loop-b.b-index c.loop-b.value (value_from c.args.base 0 c.args.bytes.now) c.loop-b-test.true c.loop-b.invariant.0 c.in-None.ensures

pub loop-b-preserved : goal.loop-b-preserved
loop-b-preserved c = (
  value_next c.args.base c.args.bytes.now c.loop-b.b-index c.loop-b.value (value_from c.args.base 0 c.args.bytes.now) c.loop-b-test.true c.loop-b.invariant.0 ∙ ap (λ n. value_from c.args.base n (drop (c.loop-b.b-index + 1) c.args.bytes.now)) (sym (some_is _ c.in-Some.next c.in-Some.ensures)),
  some_fits _ c.in-Some.next c.in-Some.ensures,
)

pub returns : goal.returns
returns c = let e : drop c.loop-b.b-index c.args.bytes.now ≡ [] = drop_of_length-le c.args.bytes.now c.loop-b-test.false in
    fits_under c.loop-b.value c.loop-b.invariant.1 ∙ ap fits (sym (c.loop-b.invariant.0 ∙ ap (value_from c.args.base c.loop-b.value) e))
