use Rattle.std.proofs.Common.{◌≡◌, ◌<◌, ◌≤◌, take, length, slice_get, get_or, true, false, Some, refl, sym, ap, ◌∙◌, subst}
use Rattle.std.proofs.lemmas.List.{get_or_read}
use Rattle.std.proofs.lemmas.Option.{slice_get-get_or}
use Rattle.elaboration_order.specs.Queue.{has, needs, needs_by}
use Rattle.elaboration_order.specs.Order.{are_done}
use Rattle.elaboration_order.proofs.Placing.{adds, needed, begun_all, settled_all}
use Rattle.elaboration_order.proofs.queue.Queue.settle.Goals as goal
use Rattle.elaboration_order.proofs.queue.Queue.settle.Goals.{In_ok-list_under}

pub returns-clause-others : goal.returns-clause-others
returns-clause-others c i h =
    let q = c.args.self.now in
    let r = c.index-rules-item.result in
    let k = c.pass-passed.result in
    let a = c.in_ok-add_where.ensures in
    let b = c.in_ok-add_where-2.ensures in
    let w : c.args.item < length c.args.rules.now = c.if-item-rules.false in
    let e : slice_get c.args.rules.now c.args.item ≡ Some r = slice_get-get_or c.args.rules.now c.args.item r w ∙ ap (λ x. Some x) (sym c.index-rules-item.is) in
    let d : get_or q.done.items c.args.item false ≡ false =
    sym (get_or_read q.done.items c.args.item c.index.result.now (subst (λ n. c.args.item < n) (sym c.requires.room.done) w) c.index.ensures false) ∙ c.if-index.false in
    let l : c.args.item < length q.passed.items = subst (λ n. c.args.item < n) (sym c.requires.room.passed) w in
    let v : c.index-2.result.now ≡ get_or q.passed.items c.args.item 0 = get_or_read q.passed.items c.args.item c.index-2.result.now l c.index-2.ensures 0 in
    let names : needs_by (slice_get c.args.rules.now c.args.item) ≡ needs r = ap needs_by e in
    let front : are_done q.done.items (take c.index-2.result.now (needs r)) ≡ true =
    subst (λ n. are_done q.done.items (take n (needs r)) ≡ true) (sym v)
    (subst (λ xs. are_done q.done.items (take (get_or q.passed.items c.args.item 0) xs) ≡ true) names c.requires.begun.passed) in
    let flags : c.as_slice.result.now ≡ q.done.items = c.as_slice.ensures.value in
    settled_all c.args.rules.now q _ c.args.item k r e l refl refl
    (adds (has q.possible) (has c.add_where.new.set) c.args.item (length r.follows) k c.len.result c.len.ensures a.with a.only a.keeps)
    (adds (has q.preferred) (has c.add_where-2.new.set) c.args.item (length (needs r)) k c.count.result c.count.ensures b.with b.only b.keeps)
    c.list_under.ensures.keeps
    c.requires.room.waiting
    (λ there at. c.in_ok-list_under.ensures.lists (get_or (needs r) k 0) (needed c.need_at.result (needs r) k c.need_at.ensures.none c.need_at.ensures.value there) at)
    (subst (λ n. n ≤ k) v c.pass-passed.ensures.goes_on) c.pass-passed.ensures.within
    (subst (λ ds. are_done ds (take k (needs r)) ≡ true) flags (c.pass-passed.ensures.passed (subst (λ ds. are_done ds (take c.index-2.result.now (needs r)) ≡ true) (sym flags) front)))
    (λ there. subst (λ ds. get_or ds (get_or (needs r) k 0) false ≡ false) flags (c.pass-passed.ensures.stops there))
    w d c.requires.begun i h

pub returns-clause-begun : goal.returns-clause-begun
returns-clause-begun c i h =
    let q = c.args.self.now in
    let r = c.index-rules-item.result in
    let k = c.pass-passed.result in
    let a = c.in_ok-add_where.ensures in
    let b = c.in_ok-add_where-2.ensures in
    let w : c.args.item < length c.args.rules.now = c.if-item-rules.false in
    let e : slice_get c.args.rules.now c.args.item ≡ Some r = slice_get-get_or c.args.rules.now c.args.item r w ∙ ap (λ x. Some x) (sym c.index-rules-item.is) in
    let d : get_or q.done.items c.args.item false ≡ false =
    sym (get_or_read q.done.items c.args.item c.index.result.now (subst (λ n. c.args.item < n) (sym c.requires.room.done) w) c.index.ensures false) ∙ c.if-index.false in
    let l : c.args.item < length q.passed.items = subst (λ n. c.args.item < n) (sym c.requires.room.passed) w in
    let v : c.index-2.result.now ≡ get_or q.passed.items c.args.item 0 = get_or_read q.passed.items c.args.item c.index-2.result.now l c.index-2.ensures 0 in
    let names : needs_by (slice_get c.args.rules.now c.args.item) ≡ needs r = ap needs_by e in
    let front : are_done q.done.items (take c.index-2.result.now (needs r)) ≡ true =
    subst (λ n. are_done q.done.items (take n (needs r)) ≡ true) (sym v)
    (subst (λ xs. are_done q.done.items (take (get_or q.passed.items c.args.item 0) xs) ≡ true) names c.requires.begun.passed) in
    let flags : c.as_slice.result.now ≡ q.done.items = c.as_slice.ensures.value in
    begun_all c.args.rules.now q _ c.args.item k r e l refl refl
    (adds (has q.possible) (has c.add_where.new.set) c.args.item (length r.follows) k c.len.result c.len.ensures a.with a.only a.keeps)
    (adds (has q.preferred) (has c.add_where-2.new.set) c.args.item (length (needs r)) k c.count.result c.count.ensures b.with b.only b.keeps)
    c.list_under.ensures.keeps
    c.requires.room.waiting
    (λ there at. c.in_ok-list_under.ensures.lists (get_or (needs r) k 0) (needed c.need_at.result (needs r) k c.need_at.ensures.none c.need_at.ensures.value there) at)
    (subst (λ n. n ≤ k) v c.pass-passed.ensures.goes_on) c.pass-passed.ensures.within
    (subst (λ ds. are_done ds (take k (needs r)) ≡ true) flags (c.pass-passed.ensures.passed (subst (λ ds. are_done ds (take c.index-2.result.now (needs r)) ≡ true) (sym flags) front)))
    (λ there. subst (λ ds. get_or ds (get_or (needs r) k 0) false ≡ false) flags (c.pass-passed.ensures.stops there))
    w d c.requires.begun i h
