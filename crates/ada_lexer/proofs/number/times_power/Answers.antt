use Rattle.std.proofs.Common.{◌≡◌, ◌<◌, ◌≤◌, ◌-◌, ◌*◌, ◌^◌, ℕ, sym, ◌∙◌, ap, subst, arith}
use Rattle.ada_lexer.specs.Runs.{fits}
use Rattle.ada_lexer.proofs.Fitting.{fits_over, fits_under, not_under, power_more, power_over, next_pos}
use Rattle.std.proofs.Math.Nat.{pow-zero}
use Rattle.ada_lexer.proofs.number.times_power.Goals as goal

pub returns-in-None : goal.returns-in-None
returns-in-None c = fits_over _ (subst (λ (x : ℕ). 2 ^ 128 ≤ x) (power_more c.loop-left.all c.args.base c.loop-left.left c.loop-left-test.true ∙ c.loop-left.invariant.1)
    (power_over (2 ^ 128) (c.loop-left.all * c.args.base) c.args.base (c.loop-left.left - 1) (subst (λ (x : ℕ). 2 ^ 128 ≤ c.loop-left.all * x) c.from.ensures (not_under (2 ^ 128) (c.loop-left.all * c.from.result) c.in-None.ensures)) (omega arith)))

pub loop-left-preserved : goal.loop-left-preserved
loop-left-preserved c = (next_pos c.loop-left.all c.args.base c.in-Some.next (c.in-Some.ensures.1 ∙ ap (λ x. c.loop-left.all * x) c.from.ensures) c.loop-left.invariant.0 c.requires.base, ap (λ x. x * c.args.base ^ (c.loop-left.left - 1)) (c.in-Some.ensures.1 ∙ ap (λ x. c.loop-left.all * x) c.from.ensures) ∙ power_more c.loop-left.all c.args.base c.loop-left.left c.loop-left-test.true ∙ c.loop-left.invariant.1, subst (λ (x : ℕ). x < 2 ^ 128) (sym c.in-Some.ensures.1) c.in-Some.ensures.0)

pub returns : goal.returns
returns c = let z : c.loop-left.left ≡ 0 = omega arith in let one : c.loop-left.all * 1 ≡ c.loop-left.all = omega arith in
    fits_under c.loop-left.all c.loop-left.invariant.2 ∙ ap fits (sym (sym c.loop-left.invariant.1 ∙ ap (λ n. c.loop-left.all * c.args.base ^ n) z ∙ ap (λ x. c.loop-left.all * x) (pow-zero c.args.base) ∙ one))
