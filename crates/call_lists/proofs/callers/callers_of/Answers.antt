use Rattle.std.proofs.Common.{◌≡◌, ℕ, List, get_or, arith, subst, sym, ◌∙◌}
use Rattle.spark_base.specs.declared.numbers.BodyNo.{BodyNo}
use Rattle.call_lists.specs.Lists.{AreLists}
use Rattle.call_lists.proofs.Names.{caller_step, names_within}
use Rattle.call_lists.proofs.callers.callers_of.Goals as goal

pub loop-b-init : goal.loop-b-init
loop-b-init c = record {
  size = c.in_ok-callers.ensures.lists.size;
  lists = subst (λ (n : ℕ). AreLists n c.in_ok-callers.callers.items) (sym c.in_ok-callers.ensures.lists.size) c.in_ok-callers.ensures.lists;
  names = λ b k. (λ m. absurd (c.in_ok-callers.ensures.empty k b m), λ h. absurd (let l = h.0 in omega (arith, l)));
}

pub loop-b-preserved : goal.loop-b-preserved
loop-b-preserved c = record {
  size = c.in_ok-add_caller.ensures.size ∙ c.loop-b.invariant.size;
  lists = c.in_ok-add_caller.ensures.lists;
  names = λ b k. caller_step c.args.callees.now c.loop-b.b c.as_slice.result.now (let l = c.loop-b-test.true in omega (arith, l))
      (subst (λ (x : List BodyNo). x ≡ get_or c.args.callees.now c.loop-b.b x) (sym c.as_slice.ensures) c.index-callees-b.is) b k
      (c.loop-b.invariant.names b k) (c.in_ok-add_caller.ensures.names k b);
}

pub returns-clause-lists : goal.returns-clause-lists
returns-clause-lists c = subst (λ (n : ℕ). AreLists n c.loop-b.callers.items) c.loop-b.invariant.size c.loop-b.invariant.lists

pub returns-clause-names : goal.returns-clause-names
returns-clause-names c = λ b k. (
  λ m. (c.loop-b.invariant.names b k).1 ((let l = names_within c.args.callees.now b k m in let t = c.loop-b-test.false in omega (arith, l, t)), m),
  λ m. ((c.loop-b.invariant.names b k).0 m).1,
)
