use Rattle.std.proofs.Common.{◌≡◌, true, sym, ◌∙◌}
use Rattle.elaboration_order.specs.Queue.{has}
use Rattle.elaboration_order.proofs.Firsts.{either_of_first, either_of_second, taken_is}
use Rattle.elaboration_order.proofs.queue.pick.Goals as goal

pub returns-in-Some-clause-value : goal.returns-in-Some-clause-value
returns-in-Some-clause-value c p q n hp hq bp bq =
    let k = c.in-Some.item in
    let e : p k ≡ true = sym (hp k) ∙ c.in-Some.ensures.member in
    either_of_first p q k n (bp k e) e (λ i t. c.in-Some.ensures.least i (hp i ∙ t))

pub returns-in-None-clause-value : goal.returns-in-None-clause-value
returns-in-None-clause-value c p q n hp hq bp bq =
    let e = c.take_first-in-None.ensures in
    taken_is (has c.args.possible.now) q n c.take_first-in-None.result hq bq e.member e.least e.none
    ∙ sym (either_of_second p q n (λ i. sym (hp i) ∙ c.in-None.ensures.none i))
