use Rattle.std.proofs.Common.{◌≡◌, ◌+◌, ◌<◌, ◌∷◌, [], length, drop, get_or, arith, add-one}
use Rattle.std.proofs.Math.Seq.{drop-cons}
use Rattle.std.proofs.lemmas.List.{drop_all}
use Rattle.std.proofs.lemmas.List.Elements.{All-push}
use Rattle.std.proofs.lemmas.Result.{on_ok_weaker}
use Rattle.call_lists.proofs.Names.{push_names}
use Rattle.spark_base.specs.declared.numbers.BodyNo.{BodyNo}
use Rattle.body_calls.proofs.Added.{added_both, added_first, none_left, within}
use Rattle.body_calls.proofs.callees.+callees.Goals as goal

pub add_all_callees-loop-s-preserved : goal.add_all_callees-loop-s-preserved
add_all_callees-loop-s-preserved t c =
    let inside : c.loop-s.s-index < length c.args.list.now = omega arith in
    let split : drop c.loop-s.s-index c.args.list.now ≡ get_or c.args.list.now c.loop-s.s-index (record { 0 = 0 }) ∷ drop (c.loop-s.s-index + 1) c.args.list.now =
    rw add-one (drop-cons c.args.list.now c.loop-s.s-index (record { 0 = 0 }) inside) in
    record {
      calls = (rw split at c.loop-s.invariant.calls).1;
      below = c.in_ok-add_callees.ensures.below;
      names = λ k. added_first (rw split at c.loop-s.invariant.names k) (c.in_ok-add_callees.ensures.names k);
    }

pub add_all_callees-returns-clause-names : goal.add_all_callees-returns-clause-names
add_all_callees-returns-clause-names t c = λ k.
    let none : drop c.loop-s.s-index c.args.list.now ≡ [] = drop_all c.loop-s.s-index c.args.list.now (omega arith) in
    none_left (λ h. h) (rw none at c.loop-s.invariant.names k)

pub add_callees-returns-in_ok-add_callees-in-If-clause-names : goal.add_callees-returns-in_ok-add_callees-in-If-clause-names
add_callees-returns-in_ok-add_callees-in-If-clause-names t c =
    let tree = rw c.in-If.is at c.stmt.ensures.tree in
    on_ok_weaker c.add_callees-in-If.result (λ h. rw tree (λ k. added_both (c.in_ok-add_callees-in-If.ensures.names k) (h k))) c.add_callees-in-If.ensures.names

pub add_callees-returns-in-Loop-clause-names : goal.add_callees-returns-in-Loop-clause-names
add_callees-returns-in-Loop-clause-names t c =
    let tree = rw c.in-Loop.is at c.stmt.ensures.tree in
    rw tree c.add_callees-in-Loop.ensures.names

pub add_callees-returns-in-Call-clause-below : goal.add_callees-returns-in-Call-clause-below
add_callees-returns-in-Call-clause-below t c =
    let tree = rw c.in-Call.is at c.stmt.ensures.tree in
    let callee = within c.args.program.now.bodies c.in-Call.callee.0 _ (rw tree at c.requires.calls) in
    on_ok_weaker c.push.result (λ e. rw e (All-push (λ (b : BodyNo). b.0 < length c.args.program.now.bodies) c.args.callees.now c.in-Call.callee c.requires.below callee)) c.push.ensures.ok

pub add_callees-returns-in-Call-clause-names : goal.add_callees-returns-in-Call-clause-names
add_callees-returns-in-Call-clause-names t c =
    let tree = rw c.in-Call.is at c.stmt.ensures.tree in
    on_ok_weaker c.push.result (λ e. rw tree (λ k. rw e (push_names c.args.callees.now c.in-Call.callee k))) c.push.ensures.ok

pub add_callees-returns-in-Guarded-clause-names : goal.add_callees-returns-in-Guarded-clause-names
add_callees-returns-in-Guarded-clause-names t c =
    let tree = rw c.in-Guarded.is at c.stmt.ensures.tree in
    rw tree c.add_callees-in-Guarded.ensures.names

pub add_callees-returns-in-Seq-clause-names : goal.add_callees-returns-in-Seq-clause-names
add_callees-returns-in-Seq-clause-names t c =
    let tree = rw c.in-Seq.is at c.stmt.ensures.tree in
    rw tree (rw c.as_slice.ensures at c.add_all_callees.ensures.names)
