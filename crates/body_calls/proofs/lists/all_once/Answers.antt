use Rattle.std.proofs.Common.{◌≡◌, ℕ, ◌+◌, ◌<◌, ◌↔◌, List, [], All, length, get_or, suc, inl, inr, arith, ap, sym, subst}
use Rattle.std.specs.Vec.Iter.{into_iter_items}
use Rattle.std.proofs.lemmas.Bool.{cases_lt}
use Rattle.std.proofs.lemmas.List.{get_or_past}
use Rattle.std.proofs.lemmas.List.Elements.{All-push}
use Rattle.spark_base.specs.declared.numbers.BodyNo.{BodyNo}
use Rattle.call_lists.specs.Lists.{Names}
use Rattle.call_lists.proofs.Names.{no_names}
use Rattle.body_calls.specs.Callees.{IsRising}
use Rattle.body_calls.proofs.Once.{none_rises}
use Rattle.body_calls.proofs.Pushed.{pushed_all, pushed_size}
use Rattle.body_calls.proofs.lists.all_once.Goals as goal

pub loop-list-preserved : goal.loop-list-preserved
loop-list-preserved c =
    let is = c.loop-list.invariant in
    let all = c.args.lists.items in
    let done = c.loop-list.all.items in
    let own = c.once.ensures in
    let step = c.in-Some.ensures.steps.0 in
    let more = pushed_size done c.once.result in
    let size = is.size in
    let left = is.left in
    let long : length (into_iter_items c.loop-list.list-iterator) ≡ suc (length (into_iter_items c.next.new.self)) = ap (λ (xs : List (List BodyNo)). length xs) step in
    let first : c.in-Some.list ≡ get_or all (length done) [] =
    subst (λ (i : ℕ). c.in-Some.list ≡ get_or all i []) (omega arith) (subst (λ (xs : List (List BodyNo)). get_or xs 0 [] ≡ get_or all (length done + 0) []) step (is.rest 0)) in
    rw c.in_ok-push.ensures.items (record {
      size = omega (arith, size, more, long);
      left = (let s = c.in-Some.ensures.steps in omega (arith, left, long, s.1));
      rest = λ k. subst (λ (i : ℕ). get_or (into_iter_items c.next.new.self) k [] ≡ get_or all i []) (omega (arith, more))
          (subst (λ (xs : List (List BodyNo)). get_or xs (suc k) [] ≡ get_or all (length done + suc k) []) step (is.rest (suc k)));
      below = λ n lists. All-push (λ (list : List BodyNo). All (λ (b : BodyNo). b.0 < n) list) done c.once.result (is.below n lists)
          (own.below n (subst (λ (list : List BodyNo). All (λ (b : BodyNo). b.0 < n) list) (sym first) (lists.below (length done) [] (omega (arith, size, long, lists.size)))));
      rising = λ k l. pushed_all (λ i list. IsRising list) done c.once.result (length done) (omega arith) is.rising own.rising k (omega (arith, l, more));
      names = λ b k l. pushed_all (λ i list. Names list b ↔ Names (get_or all i []) b) done c.once.result (length done) (omega arith) (is.names b)
          (subst (λ (list : List BodyNo). Names c.once.result b ↔ Names list b) first (own.names b)) k (omega (arith, l, more));
    })

pub returns-clause-rising : goal.returns-clause-rising
returns-clause-rising c = λ k. elim (cases_lt k (length c.loop-list.all.items)) [
  | inl l ↦ c.loop-list.invariant.rising k l
  | inr g ↦ subst (λ (list : List BodyNo). IsRising list) (sym (get_or_past c.loop-list.all.items k [] g)) none_rises
]

pub returns-clause-names : goal.returns-clause-names
returns-clause-names c = λ b k. elim (cases_lt k (length c.loop-list.all.items)) [
  | inl l ↦ c.loop-list.invariant.names b k l
  | inr g ↦ (
      let size = c.loop-list.invariant.size in
      let left = c.loop-list.invariant.left in
      let none = c.in-None.ensures.steps in
      let past = get_or_past c.loop-list.all.items k [] g in
      let beyond = get_or_past c.args.lists.items k [] (omega (arith, size, left, none.0, g)) in (
        λ m. absurd (no_names b (subst (λ (list : List BodyNo). Names list b) past m)),
        λ m. absurd (no_names b (subst (λ (list : List BodyNo). Names list b) beyond m)),
      ))
]
