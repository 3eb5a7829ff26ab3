use Rattle.std.proofs.Common.{◌≡◌, ◌-◌, ◌+◌, Some, None, length, true, set, sym, ap, ◌∙◌, refl, arith}
use Rattle.elaboration_order.specs.Order.{order, next}
use Rattle.elaboration_order.specs.Queue.{flagged}
use Rattle.elaboration_order.proofs.Steps.{comes, ends}
use Rattle.elaboration_order.proofs.order.elaboration_order.Goals as goal

pub loop-init : goal.loop-init
unfolding order
loop-init c =
    let n = length c.args.rules.now in
    let m : n - 0 ≡ n = omega arith in
    let d = c.in_ok-queue.ensures.none in
    record { kept = c.in_ok-queue.ensures.kept; order = rw (c.new-items.ensures, d, m) refl }

pub loop-preserved : goal.loop-preserved
loop-preserved c =
    let n = length c.args.rules.now in
    let done = c.loop.queue.done.items in
    let is = c.in-Some.is in
    let s : next c.args.rules.now done ≡ Some c.in-Some.item = sym c.in_ok-item.ensures.value ∙ is in
    let e : n - c.loop.counter ≡ (n - (c.loop.counter + 1)) + 1 = grind (arith, c.loop-test.true) in
    let t = comes c.args.rules.now c.loop.items (order c.args.rules.now) c.in-Some.item (n - (c.loop.counter + 1)) (n - c.loop.counter) done e s c.loop.invariant.order in
    let d : c.next.new.self.done.items ≡ set done c.in-Some.item true = c.in_ok-item.ensures.done ∙ ap (flagged done) is in
    record { kept = c.in_ok-item.ensures.kept; order = rw (c.in_ok-push-in-Some.ensures.ok, d) t }

pub returns-in-None : goal.returns-in-None
returns-in-None c =
    let n = length c.args.rules.now in
    let s : next c.args.rules.now c.loop.queue.done.items ≡ None = sym c.in_ok-item.ensures.value ∙ c.in-None.is in
    let e : n - c.loop.counter ≡ (n - (c.loop.counter + 1)) + 1 = grind (arith, c.loop-test.true) in
    ends c.args.rules.now c.loop.items (order c.args.rules.now) (n - (c.loop.counter + 1)) (n - c.loop.counter) c.loop.queue.done.items e s c.loop.invariant.order
