use Rattle.std.proofs.Common.{◌≡◌, ℕ, ◌<◌, ◌⊎◌, ◌↔◌, false, List, length, [], get_or, arith, sym, subst}
use Rattle.std.proofs.lemmas.Option.{slice_get-get_or}
use Rattle.std.specs.Prelude.{IsTrue, slice_get}
use Rattle.spark_base.specs.declared.numbers.LeafNo.{LeafNo}
use Rattle.callee_view.specs.Seen.{sees_inside}
use Rattle.call_lists.specs.Lists.{Names, NamesBelow}
use Rattle.call_lists.proofs.Names.{callee_step}
use Rattle.program_layout.specs.Made.{IsSeenInContract, leaves_by_view}
use Rattle.program_layout.proofs.Steps.{alike}
use Rattle.program_layout.proofs.Viewing.{viewed}
use Rattle.program_layout.proofs.views.add_viewers.Goals as goal

pub loop-caller-preserved : goal.loop-caller-preserved
loop-caller-preserved c =
    let is = c.loop-caller.invariant in
    let own = c.in_ok-add_leaves.ensures in
    let p = c.args.program.now in
    let size = own.size in
    let before = is.size in
    let item = get_or c.args.callers.now c.loop-caller.caller-index (record { 0 = 0 }) in
    let inside = sees_inside (slice_get p.bodies item.0) c.at-node.result.now.«package» in
    let refined = c.at-node.result.now.inner in
    let first = subst (λ (xs : List LeafNo). c.leaves_for-leaves.result.now ≡ leaves_by_view inside refined xs
    c.as_slice-in-loop-caller.result.now) c.as_slice.ensures
    c.leaves_for-leaves.ensures in
    let chosen = subst (λ (xs : List LeafNo). c.leaves_for-leaves.result.now ≡ leaves_by_view inside refined c.in_ok-outer.outer xs)
    c.as_slice-in-loop-caller.ensures first in
    let seen = viewed p (slice_get p.bodies item.0) c.args.body.0 c.at-node.result.now c.in_ok-outer.outer c.in_ok-inner.inner
    c.leaves_for-leaves.result.now c.at-node.ensures
    c.in_ok-outer.ensures.leaves c.in_ok-inner.ensures.leaves chosen in
    record {
      size = omega (arith, size, before);
      below = own.below _ (c.requires.callers c.loop-caller.caller-index (record { 0 = 0 }) c.loop-caller-test.true) is.below;
      names = λ v b. callee_step c.args.callers.now c.loop-caller.caller-index item
          (slice_get-get_or c.args.callers.now c.loop-caller.caller-index (record { 0 = 0 }) c.loop-caller-test.true) b (is.names v b)
          (alike (own.names v b)
          (λ t. (
            (t.1.0, subst (λ (k : ℕ). IsSeenInContract p (slice_get p.bodies k) c.args.body.0 v) (sym t.0) ((seen v).0 t.1.1)),
            sym
                t.0,
          ))
          (λ t. (
            sym t.1,
            (
              t.0.0,
              (seen v).1 (subst (λ (k : ℕ). IsSeenInContract p (slice_get p.bodies k) c.args.body.0 v) (sym t.1)
                  t.0.1),
            ),
          )));
    }

pub returns-clause-names : goal.returns-clause-names
returns-clause-names c = λ v b.
    let p = c.args.program.now in
    let last : c.loop-caller.caller-index ≡ length c.args.callers.now =
    (let l = c.loop-caller-test.false in let m = c.loop-caller.auto.caller-index-end in omega (arith, l, m)) in
    subst (λ (n : ℕ). Names (get_or c.loop-caller.holders.items v []) b ↔ (Names (get_or c.args.holders.now.items v []) b
    ⊎ ((IsTrue (get_or c.args.library.now v false) × IsSeenInContract p (slice_get p.bodies b) c.args.body.0 v) × NamesBelow n
    c.args.callers.now b)))
    last (c.loop-caller.invariant.names v b)
