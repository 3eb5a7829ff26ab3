use Rattle.std.proofs.Common.{◌≡◌, ◌<◌, [], length, true, false, refl, sym, ap, ◌∙◌, subst, arith, ⊎_elim, inl, inr, get_or, set}
use Rattle.std.specs.List.{Contains}
use Rattle.std.proofs.lemmas.List.{get_or_read, get_or-set_same}
use Rattle.elaboration_order.specs.Queue.{Settled}
use Rattle.elaboration_order.proofs.Releasing.{emptied_room, emptied_begun, emptied_settled, left_cases, none_left}
use Rattle.elaboration_order.proofs.queue.Queue.next.Goals as goal

pub loop-other-init : goal.loop-other-init
loop-other-init c =
    let rules = c.args.rules.now in
    let q = c.come.new.self in
    let item = c.in-Some.item in
    let e = c.in-Some.ensures in
    let room = e.room rules c.requires.room in
    let l : item < length q.waiting.items = (let a = e.within in let b = c.requires.room.done in let d = room.waiting in omega (arith, a, b, d)) in
    let came : get_or q.done.items item false ≡ true = ap (λ ds. get_or ds item false) e.done ∙ get_or-set_same c.args.self.now.done.items item true false e.within in
    let w : c.replace-released.new.dest ≡ [] = c.replace-released.ensures.after ∙ c.new.ensures in
    let is = ap (λ d. set q.waiting.items item d) w in
    let v : c.index_mut.result.now ≡ get_or q.waiting.items item [] = get_or_read q.waiting.items item c.index_mut.result.now l c.index_mut.ensures.value [] in
    let xs : c.as_slice-other-items.result.now ≡ get_or q.waiting.items item [] = c.as_slice-other-items.ensures ∙ c.replace-released.ensures.value ∙ v in
    record {
      room = emptied_room rules q _ item l refl refl (λ i. refl) (λ i. refl) is room;
      done = refl;
      begun = λ i. emptied_begun rules q _ item l refl refl (λ i. refl) (λ i. refl) is i (e.begun rules c.requires i);
      settled = λ i. ⊎_elim
          (λ s. inl (emptied_settled rules q _ item l refl refl (λ i. refl) (λ i. refl) is i came s))
          (λ h. inr (subst (λ ys. Contains ys i) (sym xs) h))
          (e.released rules c.requires i);
    }

pub loop-other-preserved : goal.loop-other-preserved
loop-other-preserved c =
    let n = c.loop-other.invariant in
    let e = c.in_ok-settle.ensures in
    record {
      room = e.room;
      done = ap (λ v. v.items) e.done ∙ n.done;
      begun = λ i. e.begun i (n.begun i);
      settled = λ i. ⊎_elim
          (λ s. inl (e.others i s))
          (λ h. ⊎_elim (λ s. inl (subst (λ k. Settled c.args.rules.now c.settle.new.self k) (sym s) e.settled)) (λ r. inr r)
          (left_cases c.as_slice-other-items.result.now c.loop-other.other-index i c.loop-other-test.true h))
          (n.settled i);
    }

pub returns-clause-kept : goal.returns-clause-kept
returns-clause-kept c =
    let n = c.loop-other.invariant in
    record { room = n.room; settled = λ i. ⊎_elim (λ s. s) (λ h. absurd (none_left c.as_slice-other-items.result.now c.loop-other.other-index i c.loop-other-test.false h)) (n.settled i) }
