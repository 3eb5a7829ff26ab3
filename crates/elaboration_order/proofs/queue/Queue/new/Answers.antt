use Rattle.std.proofs.Common.{◌<◌, refl, arith, ⊎_elim, subst, sym, ap, ◌∙◌}
use Rattle.std.proofs.lemmas.Bool.{cases_eq}
use Rattle.elaboration_order.specs.Queue.{Settled}
use Rattle.elaboration_order.proofs.queue.Queue.new.Goals as goal

pub loop-item-init : goal.loop-item-init
loop-item-init c =
    let e = c.in_ok-queue.ensures in
    record { room = e.room c.args.rules.now refl; done = e.none; begun = λ i. e.begun c.args.rules.now refl i; settled = λ i l. absurd (omega (arith, l)) }

pub loop-item-preserved : goal.loop-item-preserved
loop-item-preserved c =
    let n = c.loop-item.invariant in
    let e = c.in_ok-settle.ensures in
    record {
      room = e.room;
      done = ap (λ v. v.items) e.done ∙ n.done;
      begun = λ i. e.begun i (n.begun i);
      settled = λ i l. ⊎_elim
          (λ s. subst (λ k. Settled c.args.rules.now c.settle.new.self k) (sym s) e.settled)
          (λ ne. let b : i < c.loop-item.item = omega (arith, l, ne) in e.others i (n.settled i b))
          (cases_eq i c.loop-item.item);
    }
