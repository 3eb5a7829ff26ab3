use Rattle.std.proofs.Common.{◌∙◌, ap}
use Rattle.std.proofs.lemmas.Int.{to_z-of_z}
use Rattle.std.specs.Int.{int_pow, w128}
use Rattle.whole_numbers.specs.Numbers.{fitting}
use Rattle.whole_numbers.proofs.Powers.{power_short}
use Rattle.whole_numbers.proofs.numbers.power_natural.Goals as goal

pub returns : goal.returns
returns c =
    c.power_to.ensures
    ∙ ap (λ z. fitting (int_pow z c.short_exponent.result)) (to_z-of_z w128 c.args.a c.ranges.a)
    ∙ ap (λ e. fitting (int_pow c.args.a e)) c.short_exponent.ensures
    ∙ power_short c.args.a c.args.n
