use Rattle.std.proofs.Common.{◌≡◌, ℕ, ◌↔◌, List, [], length, get_or, arith, subst, sym}
use Rattle.spark_base.specs.declared.numbers.BodyNo.{BodyNo}
use Rattle.call_lists.specs.Lists.{Names}
use Rattle.row_leaves.specs.Search.{IsRowBelow}
use Rattle.row_leaves.proofs.Rows.{rows_whole}
use Rattle.row_leaves.proofs.leaves.row_leaves.Goals as goal

pub add_leaf-requires-clause-callers : goal.add_leaf-requires-clause-callers
add_leaf-requires-clause-callers c = λ b k.
    subst (λ (lists : List (List BodyNo)). Names (get_or c.args.bodies.now.sees b []) k ↔ Names (get_or lists k []) b) (sym c.as_slice-in-loop-v.ensures.value)
    (subst (λ (lists : List (List BodyNo)). Names (get_or lists b []) k ↔ Names (get_or c.in_ok-callers.callers.items k []) b) c.as_slice.ensures
    (c.in_ok-callers.ensures.names b k))

pub returns : goal.returns
returns c =
    let all : c.loop-v.v ≡ length c.args.bodies.now.holders =
    (let f = c.loop-v-test.false in let m = c.loop-v.auto.v-end in let e = c.len-v-end.ensures in omega (arith, f, m, e)) in
    rows_whole c.args.bodies.now c.loop-v.outer.items c.loop-v.invariant.size
    (λ b. subst (λ (n : ℕ). IsRowBelow c.args.bodies.now b n (get_or c.loop-v.outer.items b [])) all (c.loop-v.invariant.rows b))
