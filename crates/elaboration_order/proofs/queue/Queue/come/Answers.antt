use Rattle.std.proofs.Common.{◌<◌, refl, length, true, false, ◌∙◌, ⊎_elim, inl, inr}
use Rattle.elaboration_order.specs.Order.{may_come}
use Rattle.elaboration_order.proofs.Reading.{settled_possible, settled_preferred, possible_within, preferred_within}
use Rattle.elaboration_order.proofs.Coming.{begun_behind, settled_behind}
use Rattle.elaboration_order.proofs.queue.Queue.come.Goals as goal

pub returns-in_err-item-clause-value : goal.returns-in_err-item-clause-value
returns-in_err-item-clause-value c rules k =
    let q = c.args.self.now in
    c.from_residual.ensures
    ∙ c.in_err-item.ensures.value (may_come rules q.done.items true) (may_come rules q.done.items false) (length rules)
    (λ i. settled_preferred rules q i (k.settled i)) (λ i. settled_possible rules q i (k.settled i))
    (λ i. preferred_within rules q i (k.settled i)) (λ i. possible_within rules q i (k.settled i))

pub returns-clause-value : goal.returns-clause-value
returns-clause-value c rules k =
    let q = c.args.self.now in
    c.in_ok-item.ensures.value (may_come rules q.done.items true) (may_come rules q.done.items false) (length rules)
    (λ i. settled_preferred rules q i (k.settled i)) (λ i. settled_possible rules q i (k.settled i))
    (λ i. preferred_within rules q i (k.settled i)) (λ i. possible_within rules q i (k.settled i))

pub returns-clause-begun : goal.returns-clause-begun
returns-clause-begun c rules k i =
    let e = c.in_ok-item.ensures in
    let l : c.in_ok-item.item < length c.args.self.now.done.items = ⊎_elim (λ h. c.requires c.in_ok-item.item (inr h)) (λ h. c.requires c.in_ok-item.item (inl h)) e.member in
    begun_behind rules c.args.self.now _ c.in_ok-item.item l refl refl refl e.possible e.preferred i (k.settled i).begun

pub returns-clause-released : goal.returns-clause-released
returns-clause-released c rules k i =
    let e = c.in_ok-item.ensures in
    let l : c.in_ok-item.item < length c.args.self.now.done.items = ⊎_elim (λ h. c.requires c.in_ok-item.item (inr h)) (λ h. c.requires c.in_ok-item.item (inl h)) e.member in
    settled_behind rules c.args.self.now _ c.in_ok-item.item l refl refl refl e.possible e.preferred i k.room.done (k.settled i)
