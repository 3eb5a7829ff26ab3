use Rattle.std.proofs.Common.{◌≡◌, ℕ, ◌⊎◌, ◌↔◌, ◌∙◌, [], length, get_or, arith, subst}
use Rattle.call_lists.specs.Lists.{Names, NamesBelow}
use Rattle.std.proofs.lemmas.Option.{slice_get-get_or}
use Rattle.call_lists.proofs.Names.{callee_step}
use Rattle.call_lists.proofs.callers.add_caller.Goals as goal

pub loop-callee-preserved : goal.loop-callee-preserved
loop-callee-preserved c = record {
  size = c.in_ok-add_one.ensures.size ∙ c.loop-callee.invariant.size;
  lists = c.in_ok-add_one.ensures.lists;
  names = λ k b. callee_step c.args.callees.now c.loop-callee.callee-index _
      (slice_get-get_or c.args.callees.now c.loop-callee.callee-index (record { 0 = 0 }) c.loop-callee-test.true) k
      (c.loop-callee.invariant.names k b) (c.in_ok-add_one.ensures.names k b);
}

pub returns-clause-names : goal.returns-clause-names
returns-clause-names c = λ k b.
    let last : c.loop-callee.callee-index ≡ length c.args.callees.now = (let l = c.loop-callee-test.false in let m = c.loop-callee.auto.callee-index-end in omega (arith, l, m)) in
    subst (λ (n : ℕ). Names (get_or c.loop-callee.lists.items k []) b ↔ (Names (get_or c.args.lists.now.items k []) b ⊎ ((b ≡ c.args.caller.0) × NamesBelow n c.args.callees.now k)))
    last (c.loop-callee.invariant.names k b)
